-- The fork of a file, and its text.
use Rattle.std.proofs.Common.{◌≡◌, ℕ, List, [], Option, Ok, Err, Some, None, inl, inr, refl, sym, ap, subst, ◌∙◌}
use Rattle.std.specs.Prelude.{◌<◌, ◌^◌, length, IfSome}
use Rattle.std.specs.FinMap as map
use Rattle.std.specs.declared.result.Result.{Result}
use Rattle.rz_bridge.specs.declared.file.MacFile.{MacFile}
use Rattle.rz_bridge_files.specs.Contents.{admit_fork, file_in, fork_in, IsFile}
use Rattle.rz_bridge_files.specs.Faults.{or_torn}
use Rattle.rz_bridge_files.specs.declared.form.Form.{Form}
use Rattle.rz_core.specs.Answers.{Then}
use Rattle.rz_core.specs.Stop.{seen, ◌>>=◌, Gives, Meets, Yields}
use Rattle.rz_core.specs.declared.fault.Fault.{Fault}
use Rattle.rz_core.specs.declared.moment.Moment.{Moment}
use Rattle.rz_core.specs.declared.resource.OsType.{OsType}
use Rattle.rz_core.specs.declared.stop.Halt.{Halt}
use Rattle.rz_core.specs.declared.stop.Halt.TheVariants as halts
use Rattle.rz_core.specs.declared.stop.Stop.{Stop}
use Rattle.rz_core.specs.declared.stop.Stop.TheVariants.{Refused, NoMemory}
use Rattle.rz_folder.proofs.Finding.{failed_so, refuses_so}
use Rattle.rz_folder.proofs.Reading.{reads_as}
use Rattle.rz_folder.specs.Finds.{Finds}
use Rattle.rz_folder.specs.Folder.{Files}
use Rattle.rz_folder.specs.declared.folder.Folder.{Ghosts}
use Rattle.rz_fork.specs.Admit.{admitted}
use Rattle.rz_fork.specs.Contents.{Fork}
use Rattle.rz_fork.specs.declared.fault.ForkFault.{ForkFault}
use Rattle.rz_tools.specs.Again.{HoldsFile, OfFile}
use Rattle.rz_tools.specs.DeRez.{DeRezAsked, HasFileText, HasFork, HasForkText, HasText, IsFork, IsForkOf}
use Rattle.rz_tools.specs.Held.{making_with, IsShown, ShowsText}
use Rattle.rz_tools.specs.Sources.{Compiled, SaidBeside}
use Rattle.rz_tools.specs.Types.{known_by}
use Rattle.rz_tools.specs.declared.reply.ForkShown.{ForkShown}
use Rattle.rz_tools_answer.specs.Answer.{Making}
use Rattle.rz_tools_answer.specs.Made.{IsSayable, IsWarned}
use Rattle.rz_tools_answer.specs.declared.made.Failing.{Failing}
use Rattle.rz_tools_text.specs.Chosen.{chosen}
use Rattle.rz_tools_text.specs.Held.{known_of}
use Rattle.rz_tools_text.specs.Put.{IsTextOf}
use Rattle.rz_tools_text.specs.Shown.{Known}
use Rattle.rz_tools_text.specs.Text.{ShowsEach}
use Rattle.rz_tools_text.specs.declared.text.ForkText.{ForkText}

-- Bytes that are a fork, or not.

pub admits : (held : Result Fork ForkFault) (fork : Fork) → or_torn None held ≡ Ok fork → held ≡ Ok fork
admits (Ok held) fork is = let so : ◌≡◌ {A = Result Fork Fault} (Ok held) (Ok fork) = is in cc
admits (Err fault) fork is = cc is

module _ (bytes piece : List ℕ) (same : piece ≡ bytes) where
  pub is_fork_of : (held : Fork) × (admit_fork None piece ≡ Ok held) → IsForkOf (admit_fork None bytes) (Ok bytes)
  is_fork_of (held, is) =
      let here : admit_fork None bytes ≡ Ok held = subst (λ (b : List ℕ). admit_fork None b ≡ Ok held) same is in
      (held, admits (admitted bytes) held here, here)

  pub is_fork : length bytes < 2 ^ 32 → (held : Fork) × (admit_fork None piece ≡ Ok held) → IsFork bytes
  is_fork short is = let held = is_fork_of is in (short, (held.0, held.1))

-- the fork of a file, and of one that is refused
module _ (from : Option Form) (bytes data_file : List ℕ) (empty : data_file ≡ []) where
  pub file_fork : (file : MacFile) → file_in None from bytes data_file ≡ Ok file → (result : Result (List ℕ) (Stop Fault))
      → Meets result (IsForkOf (admit_fork None file.res_fork)) → Meets result (IsForkOf (fork_in None from bytes))
  file_fork file is result meets =
      subst (λ (held : Result MacFile Fault). Meets result (IsForkOf (held >>= λ file. admit_fork None file.res_fork)))
      (sym is ∙ ap (λ (d : List ℕ). file_in None from bytes d) empty) meets

  pub file_refused : (stop : Stop Fault) → Gives {X = MacFile} (file_in None from bytes data_file) (Err stop) → Meets {X = List ℕ} (Err stop) (IsForkOf (fork_in None from bytes))
  file_refused (Refused fault) is =
      subst (λ (held : Result MacFile Fault). IsForkOf (held >>= λ file. admit_fork None file.res_fork) (Err fault))
      (sym is ∙ ap (λ (d : List ℕ). file_in None from bytes d) empty) (λ i. Err fault)
  file_refused NoMemory is = tt

-- The text of a fork that was read.

same_fork : (one other : Fork) → ◌≡◌ {A = Result Fork ForkFault} (Ok one) (Ok other) → one ≡ other
same_fork one other is = cc is

pub same_making : (one other : Making) → ◌≡◌ {A = Result Making Failing} (Ok one) (Ok other) → one ≡ other
same_making one other is = cc is

module _ (moment : Moment) (asked : DeRezAsked) (compiled : Compiled) where
  abbrev Answers : Option (List ℕ) → Result (List ℕ) Fault → Type 0
  Answers entry = HasFork asked.from asked.file entry

  abbrev Texts : Option (List ℕ) → Result (List ℕ) Fault → Type 0
  Texts entry = HasFileText (known_by moment compiled) asked entry

  module _ (t : ForkText) (known : known_of t.known ≡ known_by moment compiled) (only : t.only ≡ asked.only) (skip : t.skip ≡ asked.skip) (text : List ℕ) where
    shows_there : (fork : Fork) → ShowsEach (known_of t.known) (chosen t.only t.skip fork.list) text → ShowsEach (known_by moment compiled) (chosen asked.only asked.skip fork.list) text
    shows_there fork shows =
        subst (λ (k : Known). ShowsEach k (chosen asked.only asked.skip fork.list) text) known
        (subst (λ (o : List OsType). ShowsEach (known_of t.known) (chosen o asked.skip fork.list) text) only
        (subst (λ (o : List OsType). ShowsEach (known_of t.known) (chosen t.only o fork.list) text) skip shows))

    has_text : IsTextOf t text → (entry : Option (List ℕ)) (bytes : List ℕ) → t.fork ≡ bytes → Answers entry (Ok bytes) → Texts entry (Ok text)
    has_text is None bytes same has = cc has
    has_text (fork, admits, shows) (Some held) bytes same (other, also, is) =
        let one : fork ≡ other = same_fork fork other (sym admits ∙ ap admitted same ∙ also) in
        subst (λ (answer : Result Fork Fault). HasForkText (known_by moment compiled) asked answer (Ok text)) (sym is)
        (text, shows_there other (subst (λ (f : Fork). ShowsEach (known_of t.known) (chosen t.only t.skip f.list) text) one shows), refl)

    said_text : IsTextOf t text → (entry : Option (List ℕ)) (said : List ℕ) → SaidBeside compiled (Answers entry) (Ok (record { bytes = t.fork; said = said }))
        → SaidBeside compiled (Texts entry) (Ok (record { bytes = text; said = said }))
    said_text is entry said (Ok bytes, has, so) =
        let making = same_making _ _ so in
        (Ok text, has_text is entry bytes (ap (λ (m : Making). m.bytes) making) has, ap (λ (m : Making). Ok (record { bytes = text; said = m.said })) making)
    said_text is entry said (Err fault, has, so) = cc so

  refused_text : (entry : Option (List ℕ)) (fault : Fault) → Answers entry (Err fault) → Texts entry (Err fault)
  refused_text None fault is = is
  refused_text (Some held) fault is = subst (λ (answer : Result Fork Fault). HasForkText (known_by moment compiled) asked answer (Err fault)) (sym is) refl

  said_refusal : (entry : Option (List ℕ)) (failing : Failing) → SaidBeside compiled (Answers entry) (Err failing) → SaidBeside compiled (Texts entry) (Err failing)
  said_refusal entry failing (Ok bytes, has, so) = cc so
  said_refusal entry failing (Err fault, has, so) = (Err fault, refused_text entry fault has, so)

-- What is shown of a file, or what stopped the command.

module _ (moment : Moment) (asked : DeRezAsked) (compiled : Compiled) where
  abbrev IsRead : Files → Result Making Failing → Type 0
  IsRead = OfFile asked.from asked.file (λ files. SaidBeside compiled (HasFork asked.from asked.file (map.get files asked.file)))

  abbrev IsShownOf : Files → Result ForkShown Failing → Type 0
  IsShownOf = OfFile asked.from asked.file (λ files. ShowsText (HasText moment asked files compiled))

  module _ {F : Type 0} (g : Ghosts F) {old new : F} where
    pub shows_fork : (fork : ForkShown) → known_of fork.text.known ≡ known_by moment compiled → fork.text.only ≡ asked.only → fork.text.skip ≡ asked.skip
        → Finds g old new (Ok (record { bytes = fork.text.fork; said = fork.said })) IsRead (λ making. IsFork making.bytes × IsWarned making) IsSayable → Finds g old new (Ok fork) IsShownOf IsShown IsSayable
    shows_fork fork known only skip finds = record { answered = by (g.files old) finds.answered; good = finds.good; bad = tt; reads = reads_as g old new (λ never. absurd never) finds.reads }
      where
        by : (before : Option Files) → IfSome before (λ files. IsRead files (Ok (record { bytes = fork.text.fork; said = fork.said }))) → IfSome before (λ files. IsShownOf files (Ok fork))
        by None read = tt
        by (Some files) read = ((λ text is. said_text moment asked compiled fork.text known only skip text is (map.get files asked.file) fork.said read.0), read.1)

    pub shows_none : (halt : Halt Failing) → Finds g old new (Err halt) IsRead (λ making. IsFork making.bytes × IsWarned making) IsSayable → Finds g old new (Err halt) IsShownOf IsShown IsSayable
    shows_none halt finds = record {
      answered = by (g.files old) halt finds.answered;
      good = tt;
      bad = refuses_so Making ForkShown halt IsSayable finds.bad;
      reads = reads_as g old new (failed_so ForkShown Making halt) finds.reads;
    }
      where
        by : (before : Option Files) (halt : Halt Failing) → IfSome before (λ files. Yields {X = Making} (Err halt) (IsRead files)) → IfSome before (λ files. Yields {X = ForkShown} (Err halt) (IsShownOf files))
        by None halt read = tt
        by (Some files) (halts.Refused failing) read = ((λ text is. said_refusal moment asked compiled (map.get files asked.file) failing read.0), tt)
        by (Some files) halts.ReadFault read = tt
        by (Some files) halts.NoMemory read = tt

-- after the types
pub shows_then : (first : Result Compiled Failing → Type 0) (next : Compiled → Result Making Failing → Type 0) (answer : Result ForkShown Failing)
    → Then first (λ compiled. ShowsText (next compiled)) answer → ShowsText (Then first next) answer
shows_then first next answer (inl (compiled, made, shows)) = λ text is. inl (compiled, made, shows text is)
shows_then first next answer (inr (failing, made, same)) = λ text is. inr (failing, made, ap (seen (making_with text)) same)

-- A fork's file that is shown is as short as one.

pub holds_file : (form : Option Form) (bytes data_file : List ℕ) → data_file ≡ [] → (file : MacFile) → file_in None form bytes data_file ≡ Ok file → IsFile file.res_fork → HoldsFile form bytes
holds_file form bytes data_file empty file is short other too =
    let same : ◌≡◌ {A = Result MacFile Fault} (Ok file) (Ok other) = sym is ∙ ap (λ (d : List ℕ). file_in None form bytes d) empty ∙ too in
    let e : file ≡ other = cc in
    subst (λ (f : MacFile). IsFile f.res_fork) e short
