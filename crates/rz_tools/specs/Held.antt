-- What the code holds of what words ask for, and of what sources mean.
use Rattle.std.specs.Prelude.{ℕ, List, length, option_map, IfOk}
use Rattle.std.specs.String.{string_bytes}
use Rattle.std.specs.declared.result.Result.{Result}
use Rattle.rz_core.specs.Stop.{seen}
use Rattle.rz_core.specs.declared.stop.Halt.{Halt}
use Rattle.rz_core.specs.declared.stop.Halt.TheVariants as halts
use Rattle.rz_lex.specs.Lexeme.{AreLexed}
use Rattle.rz_lex.specs.Within.{AreWithin}
use Rattle.rz_pre.specs.Program.{State}
use Rattle.rz_pre.specs.Reading.{IsProgram}
use Rattle.rz_pre.specs.declared.program.Failure.{Failure}
use Rattle.rz_pre.specs.declared.program.Program.{Program}
use Rattle.rz_tools_answer.specs.Answer.{Making}
use Rattle.rz_tools_answer.specs.Warning.{AreWarnings, IsWarningText}
use Rattle.rz_tools_answer.specs.declared.made.Failing.{Failing}
use Rattle.rz_tools.specs.DeRez.{DeRezAsked, IsFork}
use Rattle.rz_tools.specs.Restring.{RestringAsked}
use Rattle.rz_tools.specs.Rez.{RezAsked}
use Rattle.rz_tools.specs.Sources as sources
use Rattle.rz_tools.specs.Sources.{unsaid}
use Rattle.rz_tools.specs.Strings.{StringsAsked}
use Rattle.rz_tools.specs.Types.{TypesAsked}
use Rattle.rz_tools.specs.declared.derez.DeRezWords.{DeRezWords}
use Rattle.rz_tools.specs.declared.reply.ForkShown.{ForkShown}
use Rattle.rz_tools.specs.declared.restring.RestringWords.{RestringWords}
use Rattle.rz_tools.specs.declared.rez.RezWords.{RezWords}
use Rattle.rz_tools.specs.declared.sources.Compiled.{Compiled}
use Rattle.rz_tools.specs.declared.sources.SourceWords.{SourceWords}
use Rattle.rz_tools.specs.declared.strings.StringsWords.{StringsWords}
use Rattle.rz_tools_output.specs.Output.{target}
use Rattle.rz_tools_text.specs.Held.{macros_held}
use Rattle.rz_tools_text.specs.Put.{IsTextOf}
use Rattle.rz_tools_work.specs.Held.{work_of}

abbrev pub rez : RezWords → RezAsked
rez words = record {
  files = words.sources.files;
  paths = words.sources.paths;
  searches = words.searches;
  defs = words.sources.defs;
  tmpl = option_map (λ name. name.now) words.sources.tmpl;
  redeclare = words.sources.redeclare;
  append = words.append;
  over = words.over;
  target = target words.target;
}

abbrev pub types_asked : SourceWords → TypesAsked
types_asked words = record {
  files = words.files;
  paths = words.paths;
  defs = words.defs;
  tmpl = option_map (λ name. name.now) words.tmpl;
  redeclare = words.redeclare;
}

abbrev pub derez : DeRezWords → DeRezAsked
derez words = record { file = string_bytes words.file; from = words.from; only = words.only; skip = words.skip; types = types_asked words.types }

abbrev pub strings : StringsWords → StringsAsked
strings words = record { file = string_bytes words.file; from = words.from; types = types_asked words.types }

abbrev pub restring : RestringWords → RestringAsked
restring words = record {
  file = string_bytes words.file;
  from = words.from;
  catalogue = string_bytes words.catalogue;
  over = words.over;
  output = words.output.now;
  types = types_asked words.types;
}

abbrev pub compiled_of : Compiled → sources.Compiled
compiled_of compiled = record { work = work_of compiled.work; is_macro = macros_held compiled.macros; files = compiled.files }

-- what stopped a command while its sources were read
abbrev pub not_read : Halt Failure → Halt Failing
not_read (halts.Refused failure) = halts.Refused (unsaid failure.files failure.fault)
not_read halts.ReadFault = halts.ReadFault
not_read halts.NoMemory = halts.NoMemory

-- the statements of a program can be read: its tokens are of its files, and are as a source has them
pub record CanCompile (program : Program) : Type 0 where
  pub within : AreWithin (length program.files) program.tokens
  pub lexed : AreLexed program.tokens

-- what is answered of the program that was read
abbrev pub OfState : {X E : Type 0} → Program → (State → Result X E → Type 0) → Result X E → Type 0
OfState program answers answer = (s : State) → IsProgram program s → answers s answer

-- the marks of the warnings are of the files that were opened
abbrev pub HasWarnings : sources.Compiled → Type 0
HasWarnings compiled = AreWarnings (length compiled.files) compiled.work.warnings

-- what is made of a fork that is shown by this text
abbrev pub making_with : List ℕ → ForkShown → Making
making_with text fork = record { bytes = text; said = fork.said }

-- by each text of the fork that is shown, or by the refusal, this is answered
abbrev pub ShowsText : (Result Making Failing → Type 0) → Result ForkShown Failing → Type 0
ShowsText answers answer = (text : List ℕ) → IfOk answer (λ fork. IsTextOf fork.text text) → answers (seen (making_with text) answer)

-- the bytes are a fork, and what is said beside its text is lines of warnings
abbrev pub IsShown : ForkShown → Type 0
IsShown fork = IsFork fork.text.fork × IsWarningText fork.said
