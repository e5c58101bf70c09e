use Rattle.std.proofs.Common.{rules, ◌+◌, length, take, w32, sym, ap, subst, ◌∙◌, arith}
use Rattle.std.proofs.lemmas.List.{length-drop}
use Rattle.std.specs.Option.{option_copied}
use Rattle.std.proofs.lemmas.Int.{to_z-of_z}
use mir.Val.{SFits}
use Rattle.rz_core.specs.declared.resource.Word.{Word}
use Rattle.rz_expr.specs.Grammar.{argument, start_of}
use Rattle.rz_expr.specs.Reading.{index_at, prefix_count, prefixed_term, Begins, IsFront}
use Rattle.rz_expr.specs.Term.{term_of, Constant, FactOf, Named}
use Rattle.rz_words.specs.Words.{role_of}
use Rattle.rz_words.specs.declared.words.Role.TheVariants.{Fact, OtherName}
use Rattle.rz_words.specs.declared.words.Function.TheVariants.{BitField}
use Rattle.rz_expr.proofs.Steps.{alone_front, begins_first, begins_role, field_is, field_not_started, field_not_wide, field_size, first_operand, group_read, named_tokens, index_read, label_alone, label_front, label_open, no_operator, no_prefixes, none_of_no_start, one_operand_more, plain_sign, prefix_rest, prefixes_read, until_none, until_open, until_read}
use Rattle.rz_expr.proofs.read.+read.Goals as goal

pub read_bit_field-returns-in_default-2 : goal.read_bit_field-returns-in_default-2
read_bit_field-returns-in_default-2 t c =
    let name = ap (argument BitField) (sym c.behind.ensures) ∙ sym c.argument.ensures ∙ ap option_copied c.in-Some.is in
    let n = named_tokens BitField c.in-Some.name.now c.args.tokens.now c.requires name in
    let none = rw (c.in_default-2.is, c.behind-rest.ensures) at c.in_ok-start.ensures in
    field_not_started c.in-Some.name.now c.args.tokens.now n none

pub read_bit_field-read_until-requires-2 : goal.read_bit_field-read_until-requires-2
read_bit_field-read_until-requires-2 t c =
    let name = ap (argument BitField) (sym c.behind.ensures) ∙ sym c.argument.ensures ∙ ap option_copied c.in-Some.is in
    let n = named_tokens BitField c.in-Some.name.now c.args.tokens.now c.requires name in
    (omega (arith, c.decreases, field_size c.in-Some.name.now c.args.tokens.now n, ap length c.behind-2.ensures, length-drop c.in-Some-2.start.length c.behind-rest.result.now, ap length c.behind-rest.ensures, length-drop 4 c.args.tokens.now), tt)

pub read_bit_field-returns-in-Ok-None : goal.read_bit_field-returns-in-Ok-None
read_bit_field-returns-in-Ok-None t c =
    let name = ap (argument BitField) (sym c.behind.ensures) ∙ sym c.argument.ensures ∙ ap option_copied c.in-Some.is in
    let n = named_tokens BitField c.in-Some.name.now c.args.tokens.now c.requires name in
    let start = rw (c.in-Some-2.is, c.behind-rest.ensures) at c.in_ok-start.ensures in
    let none = rw (c.in-Ok-None.field-0-is, c.behind-2.ensures, c.behind-rest.ensures) at c.in-Ok-None.ensures in
    field_not_wide c.in-Some.name.now c.args.tokens.now n c.in-Some-2.start.length (term_of c.in-Some-2.start.expr) start none

pub read_bit_field-returns-in_ok-bits_at-in-Ok-Some : goal.read_bit_field-returns-in_ok-bits_at-in-Ok-Some
read_bit_field-returns-in_ok-bits_at-in-Ok-Some t c =
    let name = ap (argument BitField) (sym c.behind.ensures) ∙ sym c.argument.ensures ∙ ap option_copied c.in-Some.is in
    let n = named_tokens BitField c.in-Some.name.now c.args.tokens.now c.requires name in
    let start = rw (c.in-Some-2.is, c.behind-rest.ensures) at c.in_ok-start.ensures in
    let width = rw (c.in-Ok-Some.field-0-is, c.behind-2.ensures, c.behind-rest.ensures) at c.in-Ok-Some.ensures in
    subst (IsFront 0 c.args.tokens.now (4 + c.in-Some-2.start.length + c.in-Ok-Some.width.length)) (sym c.in_ok-bits_at-in-Ok-Some.ensures)
    (field_is c.in-Some.name.now c.args.tokens.now n c.in-Some-2.start.length c.in-Ok-Some.width.length (term_of c.in-Some-2.start.expr) (term_of c.in-Ok-Some.width.expr) start width)

pub read_group-returns-in-Some : goal.read_group-returns-in-Some
read_group-returns-in-Some t c =
    let read = rw (c.in-Some.is, c.behind.ensures) at c.in_ok-front.ensures in
    group_read c.args.tokens.now c.in-Some.front.length (term_of c.in-Some.front.expr) c.requires read

pub read_level-operands-init : goal.read_level-operands-init
read_level-operands-init t c =
    let read = rw c.in-Some.is at c.in_ok-front.ensures in
    first_operand c.args.level c.args.tokens.now c.in-Some.front.length (term_of c.in-Some.front.expr) (omega arith) read

pub read_level-returns-in_default : goal.read_level-returns-in_default
read_level-returns-in_default t c =
    let none = sym (rw c.behind-rest.ensures at c.operator_at.ensures) ∙ c.in_default.is in
    no_operator c.args.level c.args.tokens.now c.operands.length (term_of c.operands.expr) (omega arith) c.operands.invariant none

pub read_level-operands-preserved : goal.read_level-operands-preserved
read_level-operands-preserved t c =
    let right = rw (c.in-Ok-Some.field-0-is, c.behind.ensures, c.behind-rest.ensures) at c.in-Ok-Some.ensures in
    let found = sym (rw c.behind-rest.ensures at c.operator_at.ensures) ∙ c.in-Some-operator_at.is in
    rw c.in_ok-expr.ensures
    (one_operand_more c.args.level c.args.tokens.now c.operands.length c.in-Ok-Some.right.length (term_of c.operands.expr) (term_of c.in-Ok-Some.right.expr) c.in-Some-operator_at.op (omega arith) c.operands.invariant found right)

pub read_operand-returns-in-Number : goal.read_operand-returns-in-Number
read_operand-returns-in-Number t c =
    let fits : SFits w32 c.signed.result = search rules in
    alone_front c.args.tokens.now _ c.alone.result.length (term_of c.alone.result.expr)
    (begins_first _ c.args.tokens.now c.first-item.result c.in-len1-up.len_at_least c.first-item.is (ap start_of c.in-Number.is))
    c.alone.ensures.1 (ap term_of c.alone.ensures.0 ∙ ap Constant (to_z-of_z w32 c.signed.result fits ∙ c.signed.ensures))

pub read_operand-returns-in-Literal : goal.read_operand-returns-in-Literal
read_operand-returns-in-Literal t c =
    let fits : SFits w32 c.literal_number.result = search rules in
    alone_front c.args.tokens.now _ c.alone-in-Literal.result.length (term_of c.alone-in-Literal.result.expr)
    (begins_first _ c.args.tokens.now c.first-item.result c.in-len1-up.len_at_least c.first-item.is (ap start_of c.in-Literal.is))
    c.alone-in-Literal.ensures.1 (ap term_of c.alone-in-Literal.ensures.0 ∙ ap Constant (to_z-of_z w32 c.literal_number.result fits ∙ c.literal_number.ensures))

pub read_prefixed-read_operand-requires : goal.read_prefixed-read_operand-requires
read_prefixed-read_operand-requires t c = (
  omega (arith, c.decreases, ap length c.behind.ensures, length-drop c.prefix_count-count.result c.args.tokens.now),
  ap prefix_count c.behind.ensures ∙ rw c.prefix_count-count.ensures.count (prefix_rest c.args.tokens.now),
)

pub read_prefixed-returns-in_ok-prefixed-in-Some : goal.read_prefixed-returns-in_ok-prefixed-in-Some
read_prefixed-returns-in_ok-prefixed-in-Some t c =
    let count = c.prefix_count-count.ensures.count in
    let read = rw (c.in-Some.is, c.behind.ensures, count) at c.in_ok-front.ensures in
    let term = rw count at c.in_ok-prefixed-in-Some.ensures in
    subst (IsFront 0 c.args.tokens.now (c.prefix_count-count.result + c.in-Some.front.length)) (sym term)
    (subst (λ k. IsFront 0 c.args.tokens.now (k + c.in-Some.front.length) (prefixed_term (take (prefix_count c.args.tokens.now) c.args.tokens.now) (term_of c.in-Some.front.expr))) (sym count)
    (prefixes_read c.args.tokens.now c.in-Some.front.length (term_of c.in-Some.front.expr) read))

pub read_prefixed-returns-in-None : goal.read_prefixed-returns-in-None
read_prefixed-returns-in-None t c =
    let none = rw (c.in-None.is, c.behind.ensures, c.prefix_count-count.ensures.count) at c.in_ok-front.ensures in
    no_prefixes c.args.tokens.now none

pub read_sign-returns-else-is_open : goal.read_sign-returns-else-is_open
read_sign-returns-else-is_open t c =
    let none = plain_sign c.args.sign (sym c.is_open.ensures ∙ c.if-is_open.false) c.requires.operand in
    none_of_no_start c.args.tokens.now (subst (λ s. Begins s c.args.tokens.now) none c.requires.begins)

pub read_until-returns-then-ends_at : goal.read_until-returns-then-ends_at
read_until-returns-then-ends_at t c =
    let read = rw c.in-Some.is at c.in_ok-front.ensures in
    until_read c.args.frame c.args.tokens.now c.in-Some.front.length (term_of c.in-Some.front.expr) read (sym (rw c.behind.ensures at c.ends_at.ensures) ∙ c.if-ends_at.true)

pub read_until-returns-else-ends_at : goal.read_until-returns-else-ends_at
read_until-returns-else-ends_at t c =
    let read = rw c.in-Some.is at c.in_ok-front.ensures in
    until_open c.args.frame c.args.tokens.now c.in-Some.front.length (term_of c.in-Some.front.expr) read (sym (rw c.behind.ensures at c.ends_at.ensures) ∙ c.if-ends_at.false)

pub read_until-returns-in-None : goal.read_until-returns-in-None
read_until-returns-in-None t c =
    let none = rw c.in-None.is at c.in_ok-front.ensures in
    until_none c.args.frame c.args.tokens.now none

pub read_word-returns-in-Fact : goal.read_word-returns-in-Fact
read_word-returns-in-Fact t c =
    alone_front c.args.tokens.now (FactOf c.in-Fact.which) c.alone-in-Fact.result.length (term_of c.alone-in-Fact.result.expr)
    (begins_role (Fact c.in-Fact.which) c.args.word.now.bytes (role_of c.args.word.now.bytes) c.args.tokens.now c.requires (sym c.role_of.ensures ∙ c.in-Fact.is))
    c.alone-in-Fact.ensures.1 (ap term_of c.alone-in-Fact.ensures.0)

pub read_word-returns-in_ok-copy-in-OtherName : goal.read_word-returns-in_ok-copy-in-OtherName
read_word-returns-in_ok-copy-in-OtherName t c =
    alone_front c.args.tokens.now (Named c.args.word.now.bytes) c.alone.result.length (term_of c.alone.result.expr)
    (begins_role OtherName c.args.word.now.bytes (role_of c.args.word.now.bytes) c.args.tokens.now c.requires (sym c.role_of.ensures ∙ c.in-OtherName.is))
    c.alone.ensures.1 (ap term_of c.alone.ensures.0 ∙ ap (λ (word : Word). Named word.bytes) c.in_ok-copy-in-OtherName.ensures)

pub read_label-returns-then-not-index_at : goal.read_label-returns-then-not-index_at
read_label-returns-then-not-index_at t c =
    let none = ap index_at (sym c.behind.ensures) ∙ sym c.index_at.ensures ∙ c.if-not-index_at.true in
    label_front c.args.tokens.now c.args.label.now.bytes c.alone.result.length (term_of c.alone.result.expr)
    (label_alone c.args.tokens.now c.args.label.now.bytes c.requires none)
    c.alone.ensures.1 (ap term_of c.alone.ensures.0 ∙ ap (λ (word : Word). Named word.bytes) c.in_ok-copy.ensures)

pub read_label-returns-in_ok-indexed-in-Some : goal.read_label-returns-in_ok-indexed-in-Some
read_label-returns-in_ok-indexed-in-Some t c =
    let some = ap index_at (sym c.behind.ensures) ∙ sym c.index_at.ensures ∙ c.if-not-index_at.false in
    let index = rw (c.in-Some.is, c.behind-2.ensures) at c.in_ok-index.ensures in
    subst (IsFront 0 c.args.tokens.now (2 + c.in-Some.index.length)) (sym c.in_ok-indexed-in-Some.ensures)
    (index_read c.args.tokens.now c.args.label.now.bytes c.in-Some.index.length (term_of c.in-Some.index.expr) c.requires some index)

pub read_label-returns-in_ok-copy-in-None : goal.read_label-returns-in_ok-copy-in-None
read_label-returns-in_ok-copy-in-None t c =
    let none = rw (c.in-None.is, c.behind-2.ensures) at c.in_ok-index.ensures in
    label_front c.args.tokens.now c.args.label.now.bytes c.alone-in-None.result.length (term_of c.alone-in-None.result.expr)
    (label_open c.args.tokens.now c.args.label.now.bytes c.requires none)
    c.alone-in-None.ensures.1 (ap term_of c.alone-in-None.ensures.0 ∙ ap (λ (word : Word). Named word.bytes) c.in_ok-copy-in-None.ensures)
