-- What a run is given by its process: its words and its moment, or why no run begins.
use Rattle.std.specs.Prelude.{◌≡◌, ℕ, ℤ, List, [], ◌∷◌, codes, Option, Some, None}
use Rattle.rz_core.specs.declared.moment.Moment.{Moment}
use Rattle.rz_tools_host.specs.Clock.{IsMomentAt}
use Rattle.rz_tools_host.specs.Epoch.{Tells}
use Rattle.rz_tools_host.specs.Process.{AreTexts, Process}
use Rattle.rz_tools_host.specs.declared.hindrance.Hindrance.{Hindrance}
use Rattle.rz_tools_host.specs.declared.hindrance.Hindrance.TheVariants.{NoArguments, NoMoment, NoMemory}

-- the words: the arguments after the program's name
abbrev pub words_of : List (List ℕ) → List (List ℕ)
words_of [] = []
words_of (name ∷ words) = words

-- the variable that tells a build its moment, as the decimal of the seconds since the first second of 1970, in place
-- of the clock. (SOURCE_DATE_EPOCH, reproducible-builds.org)
abbrev pub source_date_epoch : List ℕ
source_date_epoch = codes "SOURCE_DATE_EPOCH"

-- the moment that the variable tells, where there is one, and else the clock's
abbrev pub IsMomentBy : Option (List ℕ) → Option ℤ → Moment → Type 0
IsMomentBy (Some value) clock moment = Tells value moment.unix
IsMomentBy None clock moment = IsMomentAt clock moment

abbrev pub IsMomentOf : Process → Moment → Type 0
IsMomentOf process moment = IsMomentBy (process.variables source_date_epoch) process.clock moment

-- A run begins with these words at this moment. All arguments are texts, also the program's name.
abbrev pub BeginsWith : Process → List (List ℕ) → Moment → Type 0
BeginsWith process words moment = AreTexts process.args × (words ≡ words_of process.args) × IsMomentOf process moment

-- There are no words: an argument is no text. Memory may be refused at any time.
abbrev pub HasNoWords : Process → Hindrance → Type 0
HasNoWords process NoArguments = AreTexts process.args → ⊥
HasNoWords process NoMoment = ⊥
HasNoWords process NoMemory = Unit {0}

-- there is no moment
abbrev pub HasNoMoment : Process → Hindrance → Type 0
HasNoMoment process NoArguments = ⊥
HasNoMoment process NoMoment = (moment : Moment) → IsMomentOf process moment → ⊥
HasNoMoment process NoMemory = Unit {0}

-- No run begins, because of this. Words are asked for before the moment.
abbrev pub Hinders : Process → Hindrance → Type 0
Hinders process NoArguments = AreTexts process.args → ⊥
Hinders process NoMoment = AreTexts process.args × ((moment : Moment) → IsMomentOf process moment → ⊥)
Hinders process NoMemory = Unit {0}
