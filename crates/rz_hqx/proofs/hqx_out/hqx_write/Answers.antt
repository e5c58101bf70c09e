use Rattle.std.proofs.Common.{◌<◌, ◌^◌, List, ℕ, length, ap, sym, subst, ◌∙◌}
use Rattle.std.specs.List.{AllByRecursion}
use Rattle.rz_hqx.specs.BinHex.{hqx_content}
use Rattle.rz_hqx.specs.Runs.{packed}
use Rattle.rz_hqx.specs.Text.{text_of}
use Rattle.rz_hqx.proofs.Again.{hqx_again}
use Rattle.rz_hqx.proofs.Fielded.{IsWritable}
use Rattle.rz_hqx.proofs.Short.{hqx_short}
use Rattle.rz_hqx.proofs.hqx_out.hqx_write.Goals as goal

pub returns-clause-again : goal.returns-clause-again
returns-clause-again c =
    let file = c.args.file.now in
    let codes = c.as_slice-2.ensures ∙ c.in_ok-coded.ensures.coded ∙ ap packed (c.as_slice.ensures ∙ c.in_ok-bytes.ensures.bytes) in
    let writable : IsWritable file = record {
      carried = c.in_ok-bytes.ensures.ranges;
      some = c.in_default.ensures.some;
      name = c.in_default.ensures.name;
      data_fork = c.in_default.ensures.data_fork;
      res_fork = c.in_default.ensures.res_fork;
    } in
    ap hqx_content (c.in_ok-write_text.ensures.text ∙ ap text_of codes)
    ∙ hqx_again file writable (subst (AllByRecursion (λ b. b < 256)) codes c.write_text.ensures.small)

pub returns-clause-short : goal.returns-clause-short
returns-clause-short c =
    let file = c.args.file.now in
    let codes = c.as_slice-2.ensures ∙ c.in_ok-coded.ensures.coded ∙ ap packed (c.as_slice.ensures ∙ c.in_ok-bytes.ensures.bytes) in
    let writable : IsWritable file = record {
      carried = c.in_ok-bytes.ensures.ranges;
      some = c.in_default.ensures.some;
      name = c.in_default.ensures.name;
      data_fork = c.in_default.ensures.data_fork;
      res_fork = c.in_default.ensures.res_fork;
    } in
    subst (λ (l : List ℕ). length l < 2 ^ 32) (sym (c.in_ok-write_text.ensures.text ∙ ap text_of codes)) (hqx_short file writable)
