-- What `rez` writes raw is the fork of the resources, which is found to be raw.
use Rattle.std.proofs.Common.{◌≡◌, inl, inr, ℕ, List, [], Option, Some, None, Ok, ap, subst, ◌∙◌}
use Rattle.std.specs.declared.result.Result.{Result}
use Rattle.rz_core.proofs.Once.{ok_or_err, same_ok}
use Rattle.rz_core.specs.Lists.{unless_fault}
use Rattle.rz_core.specs.declared.fault.Fault.{Fault}
use Rattle.rz_core.specs.declared.moment.Moment.{Moment}
use Rattle.rz_core.specs.declared.resource.Resource.{Resource}
use Rattle.rz_bridge.specs.declared.file.MacFile.{MacFile}
use Rattle.rz_bridge_files.specs.Contents.{file_in}
use Rattle.rz_bridge_files.specs.Faults.{or_broken}
use Rattle.rz_bridge_files.specs.Names.{own, raw, taken, Named}
use Rattle.rz_bridge_files.specs.Written.{written_as}
use Rattle.rz_bridge_files.specs.Forms.{content_of, form_of, raw_file}
use Rattle.rz_bridge_files.specs.declared.form.Form.{Form}
use Rattle.rz_bridge_files.specs.declared.form.Form.TheVariants.{Raw}
use Rattle.rz_fork.specs.Image.{first_limit, image}
use Rattle.rz_fork.specs.declared.fault.LimitFault.{LimitFault}
use Rattle.rz_tools_output.specs.Base.{attributes_asked, Base}
use Rattle.rz_tools_output.specs.Output.{file_of, fork_or_fault, form_asked, list_fork, past_limit, IsOutput, Target}

-- a fork that passes no limit is the image
image_of : (limit : Option LimitFault) (whole fork : List ℕ) → Ok fork ≡ fork_or_fault (unless_fault limit whole) → fork ≡ whole
image_of None whole fork is = same_ok {F = Fault} fork whole is
image_of (Some fault) whole fork is = absurd (ok_or_err {F = Fault} fork (past_limit fault) is)

fork_image : (attributes : ℕ) (reserved : List ℕ) (list : List Resource) (fork : List ℕ) → Ok fork ≡ list_fork attributes reserved list → fork ≡ image list attributes reserved
unfolding list_fork
fork_image attributes reserved list fork is = image_of (first_limit list) (image list attributes reserved) fork is

-- a raw file is named as it is
raw_named : (form : Form) (path : List ℕ) (file named : MacFile) → form ≡ Raw → Named form path file (Ok named) → named ≡ file
raw_named form path file named is (raw so same) = same_ok {F = Fault} named file same
raw_named form path file named is (own other has same) = absurd (other is)
raw_named form path file named is (taken other none takes) = absurd (other is)

-- and is written as its fork
raw_written : (form : Form) (file : MacFile) (bytes : List ℕ) → form ≡ Raw → Ok bytes ≡ written_as form file → bytes ≡ file.res_fork
raw_written form file bytes is so =
    same_ok {F = Fault} bytes file.res_fork (subst (λ (form : Form). ◌≡◌ {A = Result (List ℕ) Fault} (Ok bytes) (written_as form file)) is so)

pub output_image : (asked : Target) (moment : Moment) (base : Base) (list : List Resource) (bytes : List ℕ) → form_asked asked base ≡ Raw → IsOutput asked moment base list (Ok bytes)
    → bytes ≡ image list (attributes_asked asked.read_only base) base.fork.reserved
output_image asked moment base list bytes is (inl (fork, made, inl (file, named, so))) =
    raw_written (form_asked asked base) file bytes is so
    ∙ ap (λ (f : MacFile). f.res_fork) (raw_named (form_asked asked base) asked.name (file_of asked moment base.file fork) file is named)
    ∙ fork_image (attributes_asked asked.read_only base) base.fork.reserved list fork made
output_image asked moment base list bytes is (inl (fork, made, inr (fault, named, so))) = absurd (ok_or_err {F = Fault} bytes fault so)
output_image asked moment base list bytes is (inr (fault, made, so)) = absurd (ok_or_err {F = Fault} bytes fault so)

module _ (found : (list : List Resource) (attributes : ℕ) (reserved : List ℕ) → form_of (image list attributes reserved) ≡ Raw)
    (asked : Target) (moment : Moment) (base : Base) (list : List Resource) (bytes : List ℕ) (is : form_asked asked base ≡ Raw)
    (output : IsOutput asked moment base list (Ok bytes)) where
  pub output_found : form_of bytes ≡ Raw
  output_found = ap form_of (output_image asked moment base list bytes is output) ∙ found list (attributes_asked asked.read_only base) base.fork.reserved

  pub output_read : file_in None None bytes [] ≡ Ok (raw_file bytes)
  output_read = ap (λ (form : Form). or_broken None (content_of form bytes [])) output_found
