-- A job goes on, or stops, step by step.
use Rattle.std.proofs.Common.{◌≡◌, ℕ, suc, ◌<◌, Bool, true, false, List, [], ◌∷◌, ◌++◌, length, map, Option, Some, None, Ok, refl, sym, ap, ◌∙◌, subst, append_assoc, arith, inl, inr}
use Rattle.std.specs.Prelude.{Contains, IfSome, IsSomeAnd, if◌then◌else◌}
use Rattle.std.proofs.lemmas.Option.{none-some, same_Some}
use Rattle.std.proofs.lemmas.List.{append-nil, map-append}
use Rattle.std.proofs.lemmas.List.Elements.{All-nil, All-cons, All-append}
use Rattle.desk_outside.specs.Cause.{Rose}
use Rattle.std.specs.Global.{Vec}
use Rattle.desk_outside.specs.Files.{Files, Reads}
use Rattle.desk_outside.specs.Passages.{Passage, read}
use Rattle.command_words.specs.Words.{Word}
use Rattle.desk_commands.specs.Reports.{Refusal, refusal_status}
use Rattle.desk_commands.specs.Judgements.{NamedBytes, Judgement, Accepts, Refuses, capacity_form, requests_form, certificate_form, valid_certificate, reports_form, next_season, waiting_limit, extra_form, valid_extra, capacity_cause, requests_cause}
use Rattle.desk_commands.specs.Steps.{Step, reads, judges, names_read, IsHanded, IsNotHanded, PassFrom, RefuseFrom, form_steps, is_of_form}
use Rattle.desk_commands.specs.Writing.{read_of}
use Rattle.desk_commands.specs.Desk.{World}
use Rattle.desk_commands.specs.Leads.{AcceptsAlone, RefusesAlone, ToldLead, Leads, ToldRefused, RefusedLead, UnreadLead, MemoryLead}
use Rattle.desk_commands.specs.Stops.{IsRefusalBy, IsJudged, StopLeads}
use Rattle.desk_commands.specs.declared.stop.Stop.{Stop}
use Rattle.desk_commands.specs.declared.stop.Stop.TheVariants as stops

-- ---- names

-- what is in a list is in a longer one
pub in_longer : (name : Word) (names : List Word) (asked : Word) → Contains names asked → Contains (name ∷ names) asked
in_longer name names asked (k, lt, is) = (suc k, omega (arith, lt), is)

pub is_first : (name : Word) (names : List Word) → Contains (name ∷ names) name
is_first name names = (0, omega arith, refl)

-- ---- told files

at_some : {X : Type 0} (P : X → Type 0) (o : Option X) (x : X) → o ≡ Some x → IsSomeAnd o P → P x
at_some {X} P o x e some = subst (λ (v : Option X). IsSomeAnd v P) e some

-- the same file is handed out, and no refusal is due for it
one_handed : (held : Files) (name : Word) (most : ℕ) (bytes other : List ℕ) → IsHanded (Some held) name most bytes → IsHanded (Some held) name most other → other ≡ bytes
one_handed held name most bytes other one two = same_Some _ _ (sym two.held ∙ one.held)

handed_not_due : (held : Files) (name : Word) (most count now : ℕ) (bytes : List ℕ) (refusal : Refusal) → IsHanded (Some held) name most bytes → IsNotHanded (Some held) count now name most refusal → ⊥
handed_not_due held name most count now bytes refusal handed (inl none) = none-some bytes (sym none.0 ∙ handed.held)
handed_not_due held name most count now bytes refusal handed (inr long) =
    let over : most < length bytes = at_some (λ (b : List ℕ). most < length b) (held name) bytes handed.held long.0 in
    omega (arith, over, handed.short)

-- what a read answers is handed out
pub handed_by : (files : Option Files) (name : Word) (most count now : ℕ) (bytes : Vec ℕ) → Reads files name most count now (Ok bytes) → IsHanded files name most bytes.items
handed_by None name most count now bytes h = record { held = tt; short = h }
handed_by (Some held) name most count now bytes h = record { held = h.0; short = h.1 }

-- ---- from a step to the next: a file was read

module _ (name : Word) (most : ℕ) (bytes : List ℕ) where
  abbrev file : NamedBytes
  file = record { name = name; bytes = bytes }

  module _ (held : Files) (handed : IsHanded (Some held) name most bytes) (before : List NamedBytes) (steps : List Step) where
    pass_on : (done : List NamedBytes) → PassFrom (Some held) before (reads name most ∷ steps) done → PassFrom (Some held) (before ++ file ∷ []) steps done
    pass_on done (other, given, h) =
        subst (λ (b : List ℕ). PassFrom (Some held) (before ++ record { name = name; bytes = b } ∷ []) steps done) (one_handed held name most bytes other handed given) h

    refuse_on : (refusal : Refusal) (done : List NamedBytes) → RefuseFrom (Some held) 0 0 before (reads name most ∷ steps) refusal done → RefuseFrom (Some held) 0 0 (before ++ file ∷ []) steps refusal done
    refuse_on refusal done (inl (e, not)) = absurd (handed_not_due held name most 0 0 bytes refusal handed not)
    refuse_on refusal done (inr (other, given, h)) =
        subst (λ (b : List ℕ). RefuseFrom (Some held) 0 0 (before ++ record { name = name; bytes = b } ∷ []) steps refusal done) (one_handed held name most bytes other handed given) h

  told_read : (files : Option Files) (all : List Step) (before : List NamedBytes) (steps : List Step) → IsHanded files name most bytes → IfSome files (λ held. ToldLead held all before (reads name most ∷ steps))
      → IfSome files (λ held. ToldLead held all (before ++ file ∷ []) steps)
  told_read None all before steps handed told = tt
  told_read (Some held) all before steps handed told =
      record {
        due = λ refusal done h. refuse_on held handed before steps refusal done (told.due refusal done h);
        pass = λ done h. pass_on held handed before steps done (told.pass done h);
        forms = λ done h. pass_on held handed before (form_steps steps) done (told.forms done h);
      }

  pub leads_read : (w v u : World) (all : List Step) (before : List NamedBytes) (steps : List Step) → Leads w all before (reads name most ∷ steps) v → IsHanded w.files name most bytes
      → u.files ≡ v.files → u.faults ≡ v.faults → u.log ≡ v.log ++ read name bytes ∷ [] → Leads w all (before ++ file ∷ []) steps u
  leads_read w v u all before steps lead handed same calm longer =
      record {
        files = same ∙ lead.files;
        faults = calm ∙ lead.faults;
        log = longer ∙ (ap (λ (l : List Passage). l ++ read name bytes ∷ []) lead.log
            ∙ (append_assoc w.log (map read_of before) (read name bytes ∷ []) ∙ ap (λ (l : List Passage). w.log ++ l) (sym (map-append read_of before (file ∷ [])))));
        pass = λ done h. lead.pass done (bytes, handed, h);
        refuse = λ count now refusal done h. lead.refuse count now refusal done (inr (bytes, handed, h));
        reach = λ asked done h. lead.reach asked done (inr (bytes, handed, h));
        told = told_read w.files all before steps handed lead.told;
        asked = λ asked h. lead.asked asked (in_longer name (names_read steps) asked h);
        named = All-append (λ (f : NamedBytes). Contains (names_read all) f.name) before (file ∷ []) lead.named
            (All-cons (λ (f : NamedBytes). Contains (names_read all) f.name) file [] (lead.asked name (is_first name (names_read steps))) (All-nil (λ (f : NamedBytes). Contains (names_read all) f.name)));
      }

-- ---- from a step to the next: the files were judged

module _ (j : Judgement) (name : Word) (before : List NamedBytes) (alone : AcceptsAlone j name before) where
  form_on : (held : Files) (is : Bool) (steps : List Step) (done : List NamedBytes) → PassFrom (Some held) before (if is then judges j name ∷ steps else steps) done → PassFrom (Some held) before steps done
  form_on held true steps done h = h.1
  form_on held false steps done h = h

  judged_on : (held : Files) (steps : List Step) (refusal : Refusal) (done : List NamedBytes) → RefuseFrom (Some held) 0 0 before (judges j name ∷ steps) refusal done → RefuseFrom (Some held) 0 0 before steps refusal done
  judged_on held steps refusal done (inl (e, refuses)) = absurd (alone.alone refusal refuses)
  judged_on held steps refusal done (inr (accepts, h)) = h

  told_judge : (files : Option Files) (all : List Step) (steps : List Step) → IfSome files (λ held. ToldLead held all before (judges j name ∷ steps)) → IfSome files (λ held. ToldLead held all before steps)
  told_judge None all steps told = tt
  told_judge (Some held) all steps told =
      record {
        due = λ refusal done h. judged_on held steps refusal done (told.due refusal done h);
        pass = λ done h. (told.pass done h).1;
        forms = λ done h. form_on held (is_of_form j) (form_steps steps) done (told.forms done h);
      }

  pub leads_judge : (w v : World) (all : List Step) (steps : List Step) → Leads w all before (judges j name ∷ steps) v → Leads w all before steps v
  leads_judge w v all steps lead =
      record {
        files = lead.files;
        faults = lead.faults;
        log = lead.log;
        pass = λ done h. lead.pass done (alone.accepts, h);
        refuse = λ count now refusal done h. lead.refuse count now refusal done (inr (alone.accepts, h));
        reach = λ asked done h. lead.reach asked done (alone.accepts, h);
        told = told_judge w.files all steps lead.told;
        asked = lead.asked;
        named = lead.named;
      }

-- ---- the first step

told_start : (files : Option Files) (all : List Step) → IfSome files (λ held. ToldLead held all [] all)
told_start None all = tt
told_start (Some held) all = record { due = λ refusal done h. h; pass = λ done h. h; forms = λ done h. h }

pub leads_start : (w : World) (all : List Step) → Leads w all [] all w
leads_start w all =
    record {
      files = refl;
      faults = refl;
      log = sym (append-nil w.log);
      pass = λ done h. h;
      refuse = λ count now refusal done h. h;
      reach = λ asked done h. h;
      told = told_start w.files all;
      asked = λ asked h. h;
      named = All-nil (λ (f : NamedBytes). Contains (names_read all) f.name);
    }

-- ---- a file is not handed out

module _ (held : Files) (name : Word) (most count now : ℕ) (refusal : Refusal) (not : IsNotHanded (Some held) count now name most refusal) where
  one_not : (n : IsNotHanded (Some held) count now name most refusal) (other : Refusal) → IsNotHanded (Some held) 0 0 name most other → other ≡ refusal
  one_not (inl one) other (inl two) = two.1 ∙ sym one.1
  one_not (inl one) other (inr two) = absurd (subst (λ (o : Option (List ℕ)). IsSomeAnd o (λ b. most < length b)) one.0 two.0)
  one_not (inr one) other (inl two) = absurd (subst (λ (o : Option (List ℕ)). IsSomeAnd o (λ b. most < length b)) two.0 one.0)
  one_not (inr one) other (inr two) = two.1 ∙ sym one.1

  not_due_on : (before : List NamedBytes) (steps : List Step) (other : Refusal) (done : List NamedBytes) → RefuseFrom (Some held) 0 0 before (reads name most ∷ steps) other done → other ≡ refusal
  not_due_on before steps other done (inl (e, here)) = one_not not other here
  not_due_on before steps other done (inr (bytes, handed, h)) = absurd (handed_not_due held name most count now bytes refusal handed not)

  no_pass : (before : List NamedBytes) (steps : List Step) (done : List NamedBytes) → PassFrom (Some held) before (reads name most ∷ steps) done → ⊥
  no_pass before steps done (bytes, handed, h) = handed_not_due held name most count now bytes refusal handed not

told_not : (files : Option Files) (name : Word) (most count now : ℕ) (refusal : Refusal) (all : List Step) (before : List NamedBytes) (steps : List Step) → IsNotHanded files count now name most refusal
    → IfSome files (λ held. ToldLead held all before (reads name most ∷ steps)) → IfSome files (λ held. ToldRefused held all refusal)
told_not None name most count now refusal all before steps not told = tt
told_not (Some held) name most count now refusal all before steps not told =
    record {
      alone = λ other due. not_due_on held name most count now refusal not before steps other due.0 (told.due other due.0 due.1);
      broken = λ done h. no_pass held name most count now refusal not before steps done (told.pass done h);
      forms = λ done h. absurd (no_pass held name most count now refusal not before (form_steps steps) done (told.forms done h));
    }

-- a file that is not handed out is refused with status 5
not_handed_five : (files : Option Files) (count now : ℕ) (name : Word) (most : ℕ) (refusal : Refusal) → IsNotHanded files count now name most refusal → refusal_status refusal ≡ 5
not_handed_five None count now name most refusal (rose, inl is) = ap refusal_status is
not_handed_five None count now name most refusal (rose, inr is) = ap refusal_status is
not_handed_five (Some held) count now name most refusal (inl (none, is)) = ap refusal_status is
not_handed_five (Some held) count now name most refusal (inr (long, is)) = ap refusal_status is

pub refused_read : (w v u : World) (name : Word) (most : ℕ) (refusal : Refusal) (all : List Step) (before : List NamedBytes) (steps : List Step) → Leads w all before (reads name most ∷ steps) v
    → IsNotHanded w.files w.faults u.faults name most refusal → u.files ≡ v.files → u.log ≡ v.log → RefusedLead w all refusal u
refused_read w v u name most refusal all before steps lead not same quiet =
    record {
      inputs = before;
      due = lead.refuse w.faults u.faults refusal before (inl (refl, not));
      log = quiet ∙ lead.log;
      files = same ∙ lead.files;
      calm = λ other. absurd (other (not_handed_five w.files w.faults u.faults name most refusal not));
      told = told_not w.files name most w.faults u.faults refusal all before steps not lead.told;
      named = lead.named;
    }

pub unread_read : (w v u : World) (name : Word) (most : ℕ) (all : List Step) (before : List NamedBytes) (steps : List Step) → Leads w all before (reads name most ∷ steps) v
    → Rose v.faults u.faults → u.files ≡ v.files → u.log ≡ v.log → UnreadLead w all name u
unread_read w v u name most all before steps lead rose same quiet =
    record {
      inputs = before;
      reached = lead.reach name before (inl (refl, refl));
      rose = subst (λ (n : ℕ). Rose n u.faults) lead.faults rose;
      log = quiet ∙ lead.log;
      files = same ∙ lead.files;
      named = lead.named;
    }

pub memory_read : (w v u : World) (all : List Step) (before : List NamedBytes) (steps : List Step) → Leads w all before steps v → u.log ≡ v.log → MemoryLead w all u
memory_read w v u all before steps lead quiet = record { inputs = before; log = quiet ∙ lead.log; named = lead.named }

-- ---- the files are refused

valid_status : (name : Word) (before : List NamedBytes) (refusal : Refusal) → Refuses valid_certificate name before refusal → refusal_status refusal ≡ 1
valid_status name [] refusal refuses = absurd refuses
valid_status name (capacity ∷ []) refusal refuses = absurd refuses
valid_status name (capacity ∷ requests ∷ []) refusal refuses = absurd refuses
valid_status name (capacity ∷ requests ∷ certificate ∷ rest) refusal (s, c, line, reason, season, spells, fails, is) = ap refusal_status is

extra_status : (name : Word) (before : List NamedBytes) (refusal : Refusal) → Refuses valid_extra name before refusal → refusal_status refusal ≡ 1
extra_status name [] refusal refuses = absurd refuses
extra_status name (capacity ∷ []) refusal refuses = absurd refuses
extra_status name (capacity ∷ requests ∷ []) refusal refuses = absurd refuses
extra_status name (capacity ∷ requests ∷ certificate ∷ []) refusal refuses = absurd refuses
extra_status name (capacity ∷ requests ∷ certificate ∷ asks ∷ []) refusal refuses = absurd refuses
extra_status name (capacity ∷ requests ∷ certificate ∷ asks ∷ extra ∷ rest) refusal (s, c, history, stage, line, reason, season, spells, asked, said, fails, is) = ap refusal_status is

module _ (name : Word) (before : List NamedBytes) (refusal : Refusal) where
  form_stops : (j : Judgement) (held : Files) (steps : List Step) (done : List NamedBytes) → RefusesAlone j name before refusal → PassFrom (Some held) before (if is_of_form j then judges j name ∷ steps else steps) done → refusal_status refusal ≡ 1
  form_stops capacity_form held steps done alone h = absurd (alone.rejects h.0)
  form_stops requests_form held steps done alone h = absurd (alone.rejects h.0)
  form_stops certificate_form held steps done alone h = absurd (alone.rejects h.0)
  form_stops valid_certificate held steps done alone h = valid_status name before refusal alone.refuses
  form_stops reports_form held steps done alone h = absurd (alone.rejects h.0)
  form_stops next_season held steps done alone h = absurd (alone.rejects h.0)
  form_stops waiting_limit held steps done alone h = absurd (alone.rejects h.0)
  form_stops extra_form held steps done alone h = absurd (alone.rejects h.0)
  form_stops valid_extra held steps done alone h = extra_status name before refusal alone.refuses
  form_stops capacity_cause held steps done alone h = absurd (alone.rejects h.0)
  form_stops requests_cause held steps done alone h = absurd (alone.rejects h.0)

  module _ (j : Judgement) (alone : RefusesAlone j name before refusal) where
    due_stops : (held : Files) (steps : List Step) (other : Refusal) (done : List NamedBytes) → RefuseFrom (Some held) 0 0 before (judges j name ∷ steps) other done → other ≡ refusal
    due_stops held steps other done (inl (e, refuses)) = alone.alone other refuses
    due_stops held steps other done (inr (accepts, h)) = absurd (alone.rejects accepts)

    told_stops : (files : Option Files) (all : List Step) (steps : List Step) → IfSome files (λ held. ToldLead held all before (judges j name ∷ steps)) → IfSome files (λ held. ToldRefused held all refusal)
    told_stops None all steps told = tt
    told_stops (Some held) all steps told =
        record {
          alone = λ other due. due_stops held steps other due.0 (told.due other due.0 due.1);
          broken = λ done h. alone.rejects (told.pass done h).0;
          forms = λ done h. form_stops j held (form_steps steps) done alone (told.forms done h);
        }

    pub refused_judge : (w v : World) (all : List Step) (steps : List Step) → Leads w all before (judges j name ∷ steps) v → RefusedLead w all refusal v
    refused_judge w v all steps lead =
        record {
          inputs = before;
          due = lead.refuse w.faults v.faults refusal before (inl (refl, alone.refuses));
          log = lead.log;
          files = lead.files;
          calm = λ other. lead.faults;
          told = told_stops w.files all steps lead.told;
          named = lead.named;
        }

pub judged_stops : (names : List Word) (j : Judgement) (name : Word) (before : List NamedBytes) (stop : Stop) (w v : World) (all : List Step) (steps : List Step) → IsJudged names j name before stop
    → Leads w all before (judges j name ∷ steps) v → StopLeads names w all stop v
judged_stops names j name before (stops.Missing place) w v all steps why lead = absurd why
judged_stops names j name before (stops.Large place) w v all steps why lead = absurd why
judged_stops names j name before (stops.Unread place) w v all steps why lead = absurd why
judged_stops names j name before (stops.Unwritten place) w v all steps why lead = absurd why
judged_stops names j name before (stops.OutOfForm place line) w v all steps why lead = refused_judge name before _ j why w v all steps lead
judged_stops names j name before (stops.OverLimit limit number) w v all steps why lead = refused_judge name before _ j why w v all steps lead
judged_stops names j name before (stops.NotValid line reason) w v all steps why lead = refused_judge name before _ j why w v all steps lead
judged_stops names j name before (stops.Unopened why_not) w v all steps why lead = absurd why
judged_stops names j name before stops.NoNext w v all steps why lead = refused_judge name before _ j why w v all steps lead
judged_stops names j name before (stops.ExtraFails line reason) w v all steps why lead = refused_judge name before _ j why w v all steps lead
judged_stops names j name before (stops.BadForm place line cause) w v all steps why lead = refused_judge name before _ j why w v all steps lead
judged_stops names j name before (stops.PastLimit limit number cause) w v all steps why lead = refused_judge name before _ j why w v all steps lead
judged_stops names j name before stops.Memory w v all steps why lead = memory_read w v v all before (judges j name ∷ steps) lead refl

-- files that are accepted stop a judgement for want of memory alone
pub only_memory : (names : List Word) (j : Judgement) (name : Word) (files : List NamedBytes) (stop : Stop) → Accepts j files → IsJudged names j name files stop → stop ≡ stops.Memory
only_memory names j name files (stops.Missing place) accepts why = absurd why
only_memory names j name files (stops.Large place) accepts why = absurd why
only_memory names j name files (stops.Unread place) accepts why = absurd why
only_memory names j name files (stops.Unwritten place) accepts why = absurd why
only_memory names j name files (stops.OutOfForm place line) accepts why = absurd (why.rejects accepts)
only_memory names j name files (stops.OverLimit limit number) accepts why = absurd (why.rejects accepts)
only_memory names j name files (stops.NotValid line reason) accepts why = absurd (why.rejects accepts)
only_memory names j name files (stops.Unopened why_not) accepts why = absurd why
only_memory names j name files stops.NoNext accepts why = absurd (why.rejects accepts)
only_memory names j name files (stops.ExtraFails line reason) accepts why = absurd (why.rejects accepts)
only_memory names j name files (stops.BadForm place line cause) accepts why = absurd (why.rejects accepts)
only_memory names j name files (stops.PastLimit limit number cause) accepts why = absurd (why.rejects accepts)
only_memory names j name files stops.Memory accepts why = refl

-- ---- refusals by a property

pub by_property : (names : List Word) (One Other : Refusal → Type 0) (stop : Stop) → ((refusal : Refusal) → One refusal → Other refusal) → IsRefusalBy names One stop → IsRefusalBy names Other stop
by_property names One Other (stops.Missing place) on why = why
by_property names One Other (stops.Large place) on why = why
by_property names One Other (stops.Unread place) on why = why
by_property names One Other (stops.Unwritten place) on why = why
by_property names One Other (stops.OutOfForm place line) on why = on _ why
by_property names One Other (stops.OverLimit limit number) on why = on _ why
by_property names One Other (stops.NotValid line reason) on why = on _ why
by_property names One Other (stops.Unopened why_not) on why = why
by_property names One Other stops.NoNext on why = on _ why
by_property names One Other (stops.ExtraFails line reason) on why = on _ why
by_property names One Other (stops.BadForm place line cause) on why = on _ why
by_property names One Other (stops.PastLimit limit number cause) on why = on _ why
by_property names One Other stops.Memory on why = tt
