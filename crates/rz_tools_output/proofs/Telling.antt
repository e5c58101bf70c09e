-- What `list` tells, from what its calls gave.
use Rattle.std.proofs.Common.{◌≡◌, ℕ, List, [], Option, Some, None, Ok, Err, sym, ap, subst, ◌∙◌}
use Rattle.std.specs.declared.result.Result.{Result}
use Rattle.rz_bridge.specs.declared.file.MacFile.{MacFile}
use Rattle.rz_bridge_files.specs.Contents.{admit_fork, file_in, form_or, IsFile}
use Rattle.rz_bridge_files.specs.Faults.{or_broken, or_torn}
use Rattle.rz_bridge_files.specs.Forms.{content_of}
use Rattle.rz_bridge_files.specs.declared.form.Form.{Form}
use Rattle.rz_core.proofs.Once.{ok}
use Rattle.rz_core.specs.Stop.{◌>>=◌, Gives}
use Rattle.rz_core.specs.declared.fault.Fault.{Fault}
use Rattle.rz_core.specs.declared.stop.Stop.{Stop}
use Rattle.rz_core.specs.declared.stop.Stop.TheVariants.{Refused, NoMemory}
use Rattle.rz_fork.specs.Admit.{admitted}
use Rattle.rz_fork.specs.Contents.{Fork}
use Rattle.rz_fork.specs.declared.fault.ForkFault.{ForkFault}
use Rattle.rz_told.proofs.Parted.{contents_are}
use Rattle.rz_told.specs.Held.{text_of, IsWhole}
use Rattle.rz_told.specs.Text.{file_text}
use Rattle.rz_tools_output.specs.List.{listed_in}

-- a fork that is admitted without a mark
admits : (held : Result Fork ForkFault) (fork : Fork) → or_torn None held ≡ Ok fork → held ≡ Ok fork
admits (Ok held) fork is = let so : ◌≡◌ {A = Result Fork Fault} (Ok held) (Ok fork) = is in cc
admits (Err fault) fork is = cc is

-- What bytes of a form hold, beside no data file.

module _ (from : Option Form) (bytes : List ℕ) (form : Form) (of_form : form ≡ form_or from bytes) (data_file : List ℕ) (none : data_file ≡ []) where
  -- what is told of a file
  abbrev Next : MacFile → Result (List ℕ) Fault
  Next file = admit_fork None file.res_fork >>= λ fork. Ok (file_text (form_or from bytes) file fork.list)

  told_of : (held : Result MacFile Fault) → file_in None (Some form) bytes data_file ≡ held → listed_in from bytes ≡ (held >>= Next)
  told_of held is =
      ap (λ (r : Result MacFile Fault). r >>= Next)
      (ap (λ (f : Form). or_broken None (content_of f bytes [])) (sym of_form) ∙ ap (λ (d : List ℕ). or_broken None (content_of form bytes d)) (sym none) ∙ is)

  module _ (file : MacFile) (is : file_in None (Some form) bytes data_file ≡ Ok file) (piece : List ℕ) (same : piece ≡ file.res_fork) where
    there : (held : Result Fork Fault) → admit_fork None piece ≡ held → listed_in from bytes ≡ (held >>= λ fork. Ok (file_text (form_or from bytes) file fork.list))
    there held so =
        told_of (Ok file) is
        ∙ ap (λ (r : Result Fork Fault). r >>= λ fork. Ok (file_text (form_or from bytes) file fork.list)) (ap (admit_fork None) (sym same) ∙ so)

    pub listed_told : (fork : Fork) × (admit_fork None piece ≡ Ok fork) → listed_in from bytes ≡ Ok (text_of (record { form = form; file = file }))
    listed_told (fork, so) =
        there (Ok fork) so ∙ ap (λ (f : Form). ok (file_text f file fork.list)) (sym of_form)
        ∙ ap (λ (f : Fork). ok (file_text form file f.list)) (contents_are file.res_fork piece same fork (admits (admitted piece) fork so))

    pub listed_torn : (fault : Fault) → admit_fork None piece ≡ Err fault → listed_in from bytes ≡ Err fault
    listed_torn fault so = there (Err fault) so

    pub is_whole : IsFile file.res_fork → (fork : Fork) × (admit_fork None piece ≡ Ok fork) → IsWhole (record { form = form; file = file })
    is_whole short (fork, so) = (short.1, (fork, subst (λ (b : List ℕ). admitted b ≡ Ok fork) same (admits (admitted piece) fork so)))

  pub listed_refused : (stop : Stop Fault) → Gives {X = MacFile} (file_in None (Some form) bytes data_file) (Err stop)
      → Gives {X = List ℕ} (listed_in from bytes) (Err stop)
  listed_refused (Refused fault) is = told_of (Err fault) is
  listed_refused NoMemory is = tt
