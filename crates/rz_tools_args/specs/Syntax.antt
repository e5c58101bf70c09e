-- What stands in the arguments of each command: one table. (MPW Rez; MPW DeRez.)
use Rattle.std.specs.Prelude.{ℕ, List, [], ◌∷◌, ◌++◌, Option, Some, None, codes, if◌then◌else◌}
use Rattle.std.specs.Str.{bytes_eq}
use Rattle.rz_tools_args.specs.declared.flag.Flag.{Flag}
use Rattle.rz_tools_args.specs.declared.flag.Flag.TheVariants as flags
use Rattle.rz_tools_args.specs.declared.flag.Sort.{Sort}
use Rattle.rz_tools_args.specs.declared.flag.Sort.TheVariants as sorts
use Rattle.rz_tools_args.specs.declared.flag.Switch.{Switch}
use Rattle.rz_tools_args.specs.declared.flag.Switch.TheVariants as switches
use Rattle.rz_tools_args.specs.declared.name.CommandName.{CommandName}
use Rattle.rz_tools_args.specs.declared.name.CommandName.TheVariants as names
use Rattle.rz_tools_args.specs.declared.syntax.Places.{Places}
use Rattle.rz_tools_args.specs.declared.syntax.Places.TheVariants as places

-- what the value after an option is
abbrev pub sort_of : Flag → Sort
sort_of flags.Output = sorts.Name
sort_of flags.Path = sorts.Name
sort_of flags.Search = sorts.Name
sort_of flags.Define = sorts.Definition
sort_of flags.Undefine = sorts.Undefinition
sort_of flags.Only = sorts.Kind
sort_of flags.Skip = sorts.Kind
sort_of flags.Kind = sorts.Kind
sort_of flags.Creator = sorts.Kind
sort_of flags.Into = sorts.Form
sort_of flags.From = sorts.Form
sort_of flags.Templates = sorts.Name

-- What a command takes: its name, the options after which a value stands, the options without a value, what stands outside
-- options, and the options that must be there; and how its usage is told, after the program's name.
pub record Syntax : Type 0 where
  pub name : List ℕ
  pub flags : List (List ℕ × Flag)
  pub switches : List (List ℕ × Switch)
  pub places : Places
  pub needs : List Flag
  pub usage : List ℕ

-- the commands, in the order in which help tells them
abbrev pub commands : List CommandName
commands = names.Rez ∷ names.DeRez ∷ names.Bridge ∷ names.Det ∷ names.List ∷ names.Strings ∷ names.Restring ∷ names.Sample ∷ names.Help ∷ names.Version ∷ []

abbrev pub syntax_of : CommandName → Syntax
syntax_of names.Rez = record {
  name = codes "rez";
  flags = (codes "-o", flags.Output) ∷ (codes "-t", flags.Kind) ∷ (codes "-c", flags.Creator) ∷ (codes "-form", flags.Into)
      ∷ (codes "-i", flags.Path) ∷ (codes "-s", flags.Search) ∷ (codes "-d", flags.Define) ∷ (codes "-u", flags.Undefine)
      ∷ (codes "-tmpl", flags.Templates) ∷ [];
  switches = (codes "-a", switches.Append) ∷ (codes "-ov", switches.Over) ∷ (codes "-ro", switches.ReadOnly) ∷ (codes "-rd", switches.Redeclare) ∷ [];
  places = places.AtLeast 1;
  needs = [];
  usage = codes "rez FILE... [-o NAME] [-a] [-ov] [-ro] [-form FORM] [-t TYPE] [-c CREATOR]\n"
      ++ codes "             [-i PATH]... [-s PATH]... [-d NAME[=TEXT]]... [-u NAME]... [-rd]\n"
      ++ codes "             [-tmpl FILE]\n";
}
syntax_of names.DeRez = record {
  name = codes "derez";
  flags = (codes "-only", flags.Only) ∷ (codes "-skip", flags.Skip) ∷ (codes "-s", flags.Skip) ∷ (codes "-from", flags.From)
      ∷ (codes "-i", flags.Path) ∷ (codes "-d", flags.Define) ∷ (codes "-u", flags.Undefine) ∷ (codes "-tmpl", flags.Templates) ∷ [];
  switches = (codes "-rd", switches.Redeclare) ∷ [];
  places = places.AtLeast 1;
  needs = [];
  usage = codes "derez FORK [FILE]... [-from FORM] [-i PATH]... [-d NAME[=TEXT]]... [-u NAME]...\n"
      ++ codes "               [-rd] [-tmpl FILE] [-only TYPE]... [-skip TYPE]...\n";
}
syntax_of names.Bridge = record {
  name = codes "bridge";
  flags = (codes "-to", flags.Into) ∷ (codes "-o", flags.Output) ∷ (codes "-from", flags.From) ∷ [];
  switches = [];
  places = places.Exactly 1;
  needs = flags.Into ∷ flags.Output ∷ [];
  usage = codes "bridge FILE -to FORM -o NAME [-from FORM]\n";
}
syntax_of names.Det = record {
  name = codes "det";
  flags = (codes "-from", flags.From) ∷ [];
  switches = [];
  places = places.Exactly 1;
  needs = [];
  usage = codes "det FORK [-from FORM]\n";
}
syntax_of names.List = record {
  name = codes "list";
  flags = (codes "-from", flags.From) ∷ [];
  switches = [];
  places = places.Exactly 1;
  needs = [];
  usage = codes "list FILE [-from FORM]\n";
}
syntax_of names.Strings = record {
  name = codes "strings";
  flags = (codes "-from", flags.From) ∷ (codes "-i", flags.Path) ∷ (codes "-d", flags.Define) ∷ (codes "-u", flags.Undefine)
      ∷ (codes "-tmpl", flags.Templates) ∷ [];
  switches = (codes "-rd", switches.Redeclare) ∷ [];
  places = places.AtLeast 1;
  needs = [];
  usage = codes "strings FORK [FILE]... [-from FORM] [-i PATH]... [-d NAME[=TEXT]]... [-u NAME]...\n"
      ++ codes "                 [-rd] [-tmpl FILE]\n";
}
syntax_of names.Restring = record {
  name = codes "restring";
  flags = (codes "-o", flags.Output) ∷ (codes "-from", flags.From) ∷ (codes "-i", flags.Path) ∷ (codes "-d", flags.Define)
      ∷ (codes "-u", flags.Undefine) ∷ (codes "-tmpl", flags.Templates) ∷ [];
  switches = (codes "-ov", switches.Over) ∷ (codes "-rd", switches.Redeclare) ∷ [];
  places = places.AtLeast 2;
  needs = [];
  usage = codes "restring FORK CATALOGUE [FILE]... [-o NAME] [-ov] [-from FORM] [-i PATH]...\n"
      ++ codes "                  [-d NAME[=TEXT]]... [-u NAME]... [-rd] [-tmpl FILE]\n";
}
syntax_of names.Sample = record {
  name = codes "sample";
  flags = [];
  switches = [];
  places = places.Count 5000;
  needs = [];
  usage = codes "sample COUNT\n";
}
syntax_of names.Help = record {
  name = codes "--help";
  flags = [];
  switches = [];
  places = places.Exactly 0;
  needs = [];
  usage = codes "--help\n";
}
syntax_of names.Version = record {
  name = codes "--version";
  flags = [];
  switches = [];
  places = places.Exactly 0;
  needs = [];
  usage = codes "--version\n";
}

-- what a word stands for in a table of words
abbrev pub named : {X : Type 0} → List (List ℕ × X) → List ℕ → Option X
named [] word = None
named ((spelled, one) ∷ others) word = if bytes_eq word spelled then Some one else named others word

-- the command among these that a word names
abbrev pub name_in : List CommandName → List ℕ → Option CommandName
name_in [] word = None
name_in (one ∷ others) word = if bytes_eq word (syntax_of one).name then Some one else name_in others word

-- the command that a word names
abbrev pub command_named : List ℕ → Option CommandName
command_named word = name_in commands word
