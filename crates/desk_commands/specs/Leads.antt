-- How far a job has come: what is decided from a step on decides the whole. No clause of `desk`
-- cites this.
use Rattle.std.specs.Prelude.{◌≡◌, ◌≢◌, ℕ, List, [], ◌++◌, map, Some, All, IfSome}
use Rattle.std.specs.Prelude.{Contains}
use Rattle.desk_outside.specs.Cause.{Rose}
use Rattle.desk_outside.specs.Files.{Files}
use Rattle.command_words.specs.Words.{Word}
use Rattle.desk_commands.specs.Reports.{Refusal, refusal_status}
use Rattle.desk_commands.specs.Judgements.{NamedBytes, Judgement, Accepts, Refuses}
use Rattle.desk_commands.specs.Steps.{Step, names_read, PassFrom, RefuseFrom}
use Rattle.desk_commands.specs.Steps.{ReachFrom, AllPass, FirstDue, form_steps}
use Rattle.desk_commands.specs.Writing.{read_of}
use Rattle.desk_commands.specs.Desk.{World}

-- ---- judgements that can end in one way alone

pub record AcceptsAlone (j : Judgement) (name : Word) (inputs : List NamedBytes) : Type 0 where
  pub accepts : Accepts j inputs
  pub alone : (refusal : Refusal) → Refuses j name inputs refusal → ⊥

pub record RefusesAlone (j : Judgement) (name : Word) (inputs : List NamedBytes)
    (refusal : Refusal) : Type 0 where
  pub refuses : Refuses j name inputs refusal
  pub alone : (other : Refusal) → Refuses j name inputs other → other ≡ refusal
  pub rejects : Accepts j inputs → ⊥

-- ---- a job on its way

-- from told files alone: what is due in all is due from here on, and what passes in all passes from
-- here on
pub record ToldLead (held : Files) (all : List Step) (before : List NamedBytes)
    (steps : List Step) : Type 0 where
  pub due : (refusal : Refusal) (inputs : List NamedBytes) →
      RefuseFrom (Some held) 0 0 [] all refusal inputs →
      RefuseFrom (Some held) 0 0 before steps refusal inputs
  pub pass : (inputs : List NamedBytes) → PassFrom (Some held) [] all inputs →
      PassFrom (Some held) before steps inputs
  pub forms : (inputs : List NamedBytes) → PassFrom (Some held) [] (form_steps all) inputs →
      PassFrom (Some held) before (form_steps steps) inputs

-- these files were read, each step so far passed, and these steps are left
pub record Leads (w : World) (all : List Step) (before : List NamedBytes) (steps : List Step)
    (v : World) : Type 0 where
  pub files : v.files ≡ w.files
  pub faults : v.faults ≡ w.faults
  pub log : v.log ≡ w.log ++ map read_of before
  pub pass : (inputs : List NamedBytes) → PassFrom w.files before steps inputs →
      AllPass w.files all inputs
  pub refuse : (count now : ℕ) (refusal : Refusal) (inputs : List NamedBytes) →
      RefuseFrom w.files count now before steps refusal inputs →
      RefuseFrom w.files count now [] all refusal inputs
  pub reach : (name : Word) (inputs : List NamedBytes) →
      ReachFrom w.files before steps name inputs → ReachFrom w.files [] all name inputs
  pub told : IfSome w.files (λ held. ToldLead held all before steps)
  pub asked : (name : Word) → Contains (names_read steps) name → Contains (names_read all) name
  pub named : All (λ (file : NamedBytes). Contains (names_read all) file.name) before

-- ---- where a job stopped

-- from told files alone: nothing else is due, not every step passes, and where all files are in
-- their forms the certificate is not valid
pub record ToldRefused (held : Files) (all : List Step) (refusal : Refusal) : Type 0 where
  pub alone : (other : Refusal) → FirstDue held all other → other ≡ refusal
  pub broken : (inputs : List NamedBytes) → AllPass (Some held) all inputs → ⊥
  pub forms : (inputs : List NamedBytes) → AllPass (Some held) (form_steps all) inputs →
      refusal_status refusal ≡ 1

pub record RefusedLead (w : World) (all : List Step) (refusal : Refusal) (v : World) : Type 0 where
  pub inputs : List NamedBytes
  pub due : RefuseFrom w.files w.faults v.faults [] all refusal inputs
  pub log : v.log ≡ w.log ++ map read_of inputs
  pub files : v.files ≡ w.files
  pub calm : refusal_status refusal ≢ 5 → v.faults ≡ w.faults
  pub told : IfSome w.files (λ held. ToldRefused held all refusal)
  pub named : All (λ (file : NamedBytes). Contains (names_read all) file.name) inputs

pub record UnreadLead (w : World) (all : List Step) (name : Word) (v : World) : Type 0 where
  pub inputs : List NamedBytes
  pub reached : ReachFrom w.files [] all name inputs
  pub rose : Rose w.faults v.faults
  pub log : v.log ≡ w.log ++ map read_of inputs
  pub files : v.files ≡ w.files
  pub named : All (λ (file : NamedBytes). Contains (names_read all) file.name) inputs

-- memory ran out while files were read
pub record MemoryLead (w : World) (all : List Step) (v : World) : Type 0 where
  pub inputs : List NamedBytes
  pub log : v.log ≡ w.log ++ map read_of inputs
  pub named : All (λ (file : NamedBytes). Contains (names_read all) file.name) inputs
