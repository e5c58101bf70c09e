-- The texts of `--help` and `--version`.
use Rattle.std.specs.Prelude.{ℕ, List, ◌++◌, codes}
use Rattle.std.specs.List.{flat_map}
use Rattle.rz_tools_args.specs.Syntax.{commands, syntax_of}
use Rattle.rz_tools_args.specs.declared.name.CommandName.{CommandName}

-- the usage of a command, after the program's name
unfoldable pub usage_of : CommandName → List ℕ
usage_of command = codes "  rezkit " ++ (syntax_of command).usage

-- what the commands do, their options, and the exit statuses
unfoldable pub explanation : List ℕ
explanation =
    codes "\n"
    ++ codes "rez compiles the sources into one resource fork. derez writes the resources of a fork as\n"
    ++ codes "text to standard output; the files after the fork declare types. bridge writes a file in\n"
    ++ codes "another form. det prints a line for each rule that a fork breaks, and last how many there\n"
    ++ codes "are. list prints what the Finder keeps of a file, and a line for each resource of its fork.\n"
    ++ codes "strings prints the texts of a fork's resources as a catalogue, and restring puts the texts\n"
    ++ codes "of a catalogue in their place, both under types as derez has them. sample compiles a source\n"
    ++ codes "of its own with COUNT resources, 1 to 5000, shows them as text and compiles the text again;\n"
    ++ codes "it prints COUNT and how many bytes the fork, the text and the second fork have. The\n"
    ++ codes "arguments of each command stand in any order:\n"
    ++ codes "  -o NAME         the file to write; of rez and restring Rez.Out if none is named\n"
    ++ codes "  -a              rez starts from the file that has this name, and adds to it\n"
    ++ codes "  -ov             protected resources may be replaced, changed and deleted\n"
    ++ codes "  -ro             rez makes the fork read only\n"
    ++ codes "  -form FORM      the form in which rez writes; else that of -a's file, else raw\n"
    ++ codes "  -t TYPE, -c CREATOR\n"
    ++ codes "                  the type and creator of the file that rez writes, if it isn't raw\n"
    ++ codes "  -from FORM      the form of the fork's file, or of bridge's; else it is found\n"
    ++ codes "  -to FORM        the form in which bridge writes\n"
    ++ codes "  -i PATH         a folder in which included sources are looked for\n"
    ++ codes "  -s PATH         a folder in which files of include and read statements are looked for\n"
    ++ codes "  -d NAME[=TEXT]  a macro that stands for the text, or for nothing\n"
    ++ codes "  -u NAME         a macro that is undefined again\n"
    ++ codes "  -rd             types may be declared again without a warning\n"
    ++ codes "  -tmpl FILE      a file whose 'TMPL' resources declare types, before the sources do\n"
    ++ codes "  -only TYPE      derez shows the resources of these types alone\n"
    ++ codes "  -skip TYPE, and of derez -s TYPE\n"
    ++ codes "                  derez doesn't show the resources of these types\n"
    ++ codes "\n"
    ++ codes "A form is raw (the resource fork alone), double (AppleDouble), single (AppleSingle),\n"
    ++ codes "macbin (MacBinary III) or hqx (BinHex 4.0). With -form double or -to double, -o ._NAME\n"
    ++ codes "is the header file, and the data fork is the file NAME beside it: bridge writes it first,\n"
    ++ codes "if it isn't empty, in the place of any file NAME, also the one that it reads; rez doesn't.\n"
    ++ codes "In a new folder, as with -o NEW/._NAME, nothing is replaced. -to raw drops the data fork,\n"
    ++ codes "the type and the creator.\n"
    ++ codes "\n"
    ++ codes "The moment of a run is SOURCE_DATE_EPOCH, if the environment has it: the seconds since\n"
    ++ codes "1970, a decimal number up to 2208988799, the end of 2039. Else it is the clock's.\n"
    ++ codes "\n"
    ++ codes "exit status: 0 done, of det also where rules are broken, 1 the arguments are no command,\n"
    ++ codes "2 refused, 3 a file can't be read or written, 4 out of memory, 5 the host gives no\n"
    ++ codes "arguments, or SOURCE_DATE_EPOCH is no moment\n"

-- the usage of each command, and the explanation
unfoldable pub help_text : List ℕ
help_text = codes "usage:\n" ++ flat_map usage_of commands ++ explanation

-- the name and the version of the program
unfoldable pub version_text : List ℕ
version_text = codes "rezkit 0.1.0\n"
