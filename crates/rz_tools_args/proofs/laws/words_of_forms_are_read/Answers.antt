use Rattle.std.proofs.Common.{◌≡◌, Some, refl}
use Rattle.rz_bridge_files.specs.Forms.{form_word}
use Rattle.rz_bridge_files.specs.declared.form.Form.{Form}
use Rattle.rz_bridge_files.specs.declared.form.Form.TheVariants.{Raw, AppleDouble, AppleSingle, MacBinary, BinHex}
use Rattle.rz_tools_args.specs.Command.{form_named}
use Rattle.rz_tools_args.proofs.laws.words_of_forms_are_read.Goals as goal

read_again : (form : Form) → form_named (form_word form) ≡ Some form
read_again Raw = refl
read_again AppleDouble = refl
read_again AppleSingle = refl
read_again MacBinary = refl
read_again BinHex = refl

pub returns : goal.returns
returns c = read_again
