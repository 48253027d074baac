-- The order of refusals: a command reads and judges its files step by step, and the first step that
-- refuses decides. All is said of the bytes that were handed out, whoever handed them out; where
-- files are told, they are the files' bytes.
use Rattle.std.specs.Prelude.{◌≡◌, ◌⊎◌, ℕ, ◌<◌, ◌≤◌, List, [], ◌∷◌, ◌++◌, length, Option, Some, None}
use Rattle.std.specs.Prelude.{IfSome, IsSomeAnd, if◌then◌else◌, Bool, true, false}
use Rattle.desk_outside.specs.Cause.{Rose}
use Rattle.desk_outside.specs.Files.{Files}
use Rattle.command_words.specs.Words.{Word}
use Rattle.desk_commands.specs.Reports.{Refusal, missing, large}
use Rattle.desk_commands.specs.Judgements.{NamedBytes, Judgement, Accepts, Refuses}
use Rattle.desk_commands.specs.Judgements.{capacity_form, requests_form, certificate_form}
use Rattle.desk_commands.specs.Judgements.{valid_certificate, reports_form, next_season}
use Rattle.desk_commands.specs.Judgements.{waiting_limit, extra_form, valid_extra}
use Rattle.desk_commands.specs.Judgements.{capacity_cause, requests_cause}

-- a file is read that has at most so many bytes; or what was read so far is judged, and a refusal
-- names this file
pub data Step : Type 0 where
  reads : Word → ℕ → Step
  judges : Judgement → Word → Step

-- the names of the files that are read
abbrev pub names_read : List Step → List Word
names_read [] = []
names_read (reads name most ∷ steps) = name ∷ names_read steps
names_read (judges judgement name ∷ steps) = names_read steps

-- the bytes are those under the name, where the files are told
abbrev pub Holds : Option Files → Word → List ℕ → Type 0
Holds files name bytes = IfSome files (λ held. held name ≡ Some bytes)

-- these bytes were handed out under the name
pub record IsHanded (files : Option Files) (name : Word) (most : ℕ) (bytes : List ℕ) : Type 0 where
  pub held : Holds files name bytes
  pub short : length bytes ≤ most

-- no file has the name, or it has more bytes than are read: by the files, where they are told, and
-- else a fault, by the count before and now
abbrev pub IsNotHanded : Option Files → ℕ → ℕ → Word → ℕ → Refusal → Type 0
IsNotHanded None before now name most refusal =
    Rose before now × ((refusal ≡ missing name) ⊎ (refusal ≡ large name))
IsNotHanded (Some held) before now name most refusal =
    ((held name ≡ None) × (refusal ≡ missing name))
    ⊎ (IsSomeAnd (held name) (λ bytes. most < length bytes) × (refusal ≡ large name))

-- ---- from a step on, after some files were read

-- each step passes, and then these files are read in all
abbrev pub PassFrom : Option Files → List NamedBytes → List Step → List NamedBytes → Type 0
PassFrom files before [] read = read ≡ before
PassFrom files before (reads name most ∷ steps) read =
    (bytes : List ℕ) × IsHanded files name most bytes
    × PassFrom files (before ++ record { name = name; bytes = bytes } ∷ []) steps read
PassFrom files before (judges judgement name ∷ steps) read =
    Accepts judgement before × PassFrom files before steps read

-- some step refuses, the steps before it pass, and then these files are read in all
abbrev pub RefuseFrom : Option Files → ℕ → ℕ → List NamedBytes → List Step → Refusal →
    List NamedBytes → Type 0
RefuseFrom files count now before [] refusal read = ⊥
RefuseFrom files count now before (reads name most ∷ steps) refusal read =
    ((read ≡ before) × IsNotHanded files count now name most refusal)
    ⊎ ((bytes : List ℕ) × IsHanded files name most bytes
    × RefuseFrom files count now (before ++ record { name = name; bytes = bytes } ∷ []) steps
    refusal read)
RefuseFrom files count now before (judges judgement name ∷ steps) refusal read =
    ((read ≡ before) × Refuses judgement name before refusal)
    ⊎ (Accepts judgement before × RefuseFrom files count now before steps refusal read)

-- some step reads the file of this name, the steps before it pass, and then these files are read
abbrev pub ReachFrom : Option Files → List NamedBytes → List Step → Word → List NamedBytes → Type 0
ReachFrom files before [] name read = ⊥
ReachFrom files before (reads asked most ∷ steps) name read =
    ((read ≡ before) × (name ≡ asked))
    ⊎ ((bytes : List ℕ) × IsHanded files asked most bytes
    × ReachFrom files (before ++ record { name = asked; bytes = bytes } ∷ []) steps name read)
ReachFrom files before (judges judgement asked ∷ steps) name read =
    Accepts judgement before × ReachFrom files before steps name read

-- ---- all steps

abbrev pub AllPass : Option Files → List Step → List NamedBytes → Type 0
AllPass files steps read = PassFrom files [] steps read

-- the report of the first step that refuses in these files
abbrev pub FirstDue : Files → List Step → Refusal → Type 0
FirstDue held steps refusal =
    (read : List NamedBytes) × RefuseFrom (Some held) 0 0 [] steps refusal read

-- the steps without the judgements of whether a certificate and one more stage are valid: all files
-- are there, in their forms and within limits, and what is written has a season, where these pass
abbrev pub is_of_form : Judgement → Bool
is_of_form capacity_form = true
is_of_form requests_form = true
is_of_form certificate_form = true
is_of_form valid_certificate = false
is_of_form reports_form = true
is_of_form next_season = true
is_of_form waiting_limit = true
is_of_form extra_form = true
is_of_form valid_extra = false
is_of_form capacity_cause = true
is_of_form requests_cause = true

abbrev pub form_steps : List Step → List Step
form_steps [] = []
form_steps (reads name most ∷ steps) = reads name most ∷ form_steps steps
form_steps (judges judgement name ∷ steps) =
    if is_of_form judgement then judges judgement name ∷ form_steps steps else form_steps steps
