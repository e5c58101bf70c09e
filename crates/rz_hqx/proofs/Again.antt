-- A BinHex that was written is read as what the form carries.
use Rattle.std.proofs.Common.{◌≡◌, ℕ, ◌-◌, List, length, Ok, Result, ap, ◌∙◌}
use Rattle.std.specs.List.{AllByRecursion}
use Rattle.rz_core.specs.Stop.{◌>>=◌}
use Rattle.rz_bridge.specs.declared.fault.BridgeFault.{BridgeFault}
use Rattle.rz_bridge.specs.declared.file.MacFile.{MacFile}
use Rattle.rz_hqx.specs.BinHex.{decoded_content, hqx_bytes, hqx_content, hqx_carried}
use Rattle.rz_hqx.specs.Letters.{sixes, eights}
use Rattle.rz_hqx.specs.Runs.{packed, unpacked}
use Rattle.rz_hqx.specs.Text.{numbers_in, text_of}
use Rattle.rz_hqx.proofs.Fielded.{IsWritable, fields_again}
use Rattle.rz_hqx.proofs.Sixes.{IsByte, eights_again, sixes_small}
use Rattle.rz_hqx.proofs.Spoken.{body_with, body_is, numbers_read}
use Rattle.rz_hqx.proofs.Undone.{packed_again}

-- what is made of numbers, and of codes
of_codes : List ℕ → Result MacFile BridgeFault
of_codes codes = unpacked codes >>= decoded_content

of_numbers : List ℕ → Result MacFile BridgeFault
of_numbers numbers = of_codes (eights numbers)

pub hqx_again : (file : MacFile) → IsWritable file → AllByRecursion IsByte (packed (hqx_bytes file)) → hqx_content (text_of (packed (hqx_bytes file))) ≡ Ok (hqx_carried file)
unfolding of_codes of_numbers
hqx_again file writable small =
    let codes = packed (hqx_bytes file) in
    let numbers = sixes codes in
    let text = text_of codes in
    ap (λ (r : Result (List ℕ) BridgeFault). r >>= (λ body. numbers_in (length text - length body) body >>= of_numbers)) (body_is numbers)
    ∙ ap (λ (r : Result (List ℕ) BridgeFault). r >>= of_numbers) (numbers_read numbers (length text - length (body_with numbers)) (sixes_small codes small))
    ∙ ap of_codes (eights_again codes small)
    ∙ ap (λ (r : Result (List ℕ) BridgeFault). r >>= decoded_content) (packed_again (hqx_bytes file))
    ∙ fields_again file writable
