-- What the code holds of a file whose text is put.
use Rattle.std.specs.Prelude.{◌≡◌, ◌<◌, ◌^◌, ℕ, List, length, Ok}
use Rattle.rz_bridge.specs.declared.file.MacFile.{MacFile}
use Rattle.rz_fork.specs.Admit.{admitted}
use Rattle.rz_fork.specs.Contents.{contents, Fork}
use Rattle.rz_told.specs.Text.{file_text}
use Rattle.rz_told.specs.declared.text.FileText.{FileText}

-- its text
abbrev pub text_of : FileText → List ℕ
text_of t = file_text t.form t.file (contents t.file.res_fork).list

-- its fork breaks no rule
abbrev pub IsWhole : FileText → Type 0
IsWhole t = (length t.file.res_fork < 2 ^ 32) × ((fork : Fork) × (admitted t.file.res_fork ≡ Ok fork))

-- the dates and the lengths of a file as the code holds them
pub record AreStored (file : MacFile) : Type 0 where
  pub created : file.created < 2 ^ 32
  pub modified : file.modified < 2 ^ 32
  pub data_fork : length file.data_fork < 2 ^ 64
  pub res_fork : length file.res_fork < 2 ^ 64
