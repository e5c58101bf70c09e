use Rattle.std.proofs.Common.{refl, sym, subst, ◌<◌, ◌^◌, ℕ, ◌≡◌, IfNone, IfSome}
use Rattle.std.proofs.lemmas.Bool.{false≢true}
use Rattle.rz_core.specs.Decimal.{decimal_of}
use Rattle.rz_tools_args.specs.Number.{BeginsAsDecimal}
use Rattle.rz_tools_args.proofs.Decimals.{decimal_begins_so, decimal_is_read, read_is_decimal}
use Rattle.rz_tools_args.proofs.number.number_told.Goals as goal

pub returns-then-begins_as_decimal-clause-some : goal.returns-then-begins_as_decimal-clause-some
returns-then-begins_as_decimal-clause-some c =
    subst (λ read. IfSome read (λ number. c.args.word.now ≡ decimal_of number)) (sym c.ok.ensures.value)
    (read_is_decimal c.args.word.now c.parse.result (subst BeginsAsDecimal c.as_bytes.ensures.value (c.if-begins_as_decimal.ensures.0 refl)) c.parse.ensures.value.0)

pub returns-then-begins_as_decimal-clause-none : goal.returns-then-begins_as_decimal-clause-none
returns-then-begins_as_decimal-clause-none c =
    subst (λ read. IfNone read ((number : ℕ) → number < 2 ^ 32 → c.args.word.now ≡ decimal_of number → ⊥)) (sym c.ok.ensures.value)
    (decimal_is_read c.args.word.now c.parse.result c.parse.ensures.value.0)

pub returns-else-begins_as_decimal-clause-none : goal.returns-else-begins_as_decimal-clause-none
returns-else-begins_as_decimal-clause-none c number small is = false≢true (c.if-begins_as_decimal.ensures.1 (subst BeginsAsDecimal (sym c.as_bytes.ensures.value) (decimal_begins_so c.args.word.now number small is)))
