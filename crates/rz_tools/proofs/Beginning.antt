-- A run begins with the words of its process.
use Rattle.std.proofs.Common.{◌≡◌, ℕ, List, Option, Some, None, sym, subst}
use Rattle.std.specs.Prelude.{IfSome}
use Rattle.rz_core.specs.declared.moment.Moment.{Moment}
use Rattle.rz_folder.specs.Folder.{Files}
use Rattle.rz_folder.specs.MayRead.{ByFiles}
use Rattle.rz_folder.specs.Sink.{Stream}
use Rattle.rz_tools_answer.specs.World.{Says}
use Rattle.rz_tools_host.specs.Given.{BeginsWith}
use Rattle.rz_tools_host.specs.Process.{Process}
use Rattle.rz_tools.specs.Asked.{WordsAsk}
use Rattle.rz_tools.specs.Begin.{ProcessAsks}

abbrev pub IsGiven : Option Process → List (List ℕ) → Moment → Type 0
IsGiven process words moment = IfSome process (λ process. BeginsWith process words moment)

-- the words that are lent are those that are held
pub lent_words : (process : Option Process) (moment : Moment) (lent held : List (List ℕ)) → lent ≡ held → IsGiven process held moment → IsGiven process lent moment
lent_words process moment lent held is given = subst (λ (words : List (List ℕ)). IsGiven process words moment) (sym is) given

-- what its words ask for, its process asks for
pub asked_by : (process : Option Process) (files : Option Files) (words : List (List ℕ)) (moment : Moment) → IsGiven process words moment
    → (name : List ℕ) → ByFiles (WordsAsk words) files name → ByFiles (ProcessAsks process) files name
asked_by process None words moment given name asks = tt
asked_by None (Some files) words moment given name asks = tt
asked_by (Some process) (Some files) words moment given name asks = subst (λ (words : List (List ℕ)). WordsAsk words files name) given.1 asks

-- the line that is said is that of the hindrance
pub says_line : (said line : List ℕ) → said ≡ line → (before after : Option Stream) (faults_before faults_after : ℕ)
    → Says said before after faults_before faults_after → Says line before after faults_before faults_after
says_line said line is before after faults_before faults_after says = subst (λ (line : List ℕ). Says line before after faults_before faults_after) is says
