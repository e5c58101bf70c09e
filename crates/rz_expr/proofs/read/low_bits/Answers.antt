use Rattle.std.proofs.Common.{◌%◌, ◌^◌, ◌∙◌, ap, sym, ℕ, ◌-◌, length, take, drop, arith}
use Rattle.rz_expr.specs.Grammar.{bytes_number}
use Rattle.rz_expr.proofs.Literals.{all_low, one_byte_more}
use Rattle.rz_expr.proofs.read.low_bits.Goals as goal

pub loop-rest-preserved : goal.loop-rest-preserved
loop-rest-preserved c = record {
  value = ap (λ (n : ℕ). bytes_number n (take (length c.loop-rest.rest.now - 1) (drop 1 c.loop-rest.rest.now)) % 2 ^ 32) c.with_byte-number.ensures ∙ one_byte_more c.loop-rest.rest.now c.loop-rest.number c.in-len1-up.len_at_least ∙ c.loop-rest.invariant.value;
  below = omega (arith, c.with_byte-number.ensures);
}

pub returns : goal.returns
returns c = sym (all_low c.loop-rest.number c.loop-rest.rest.now c.in_default.len_below c.loop-rest.invariant.below) ∙ c.loop-rest.invariant.value
