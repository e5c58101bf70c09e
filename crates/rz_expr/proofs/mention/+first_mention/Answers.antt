use Rattle.std.proofs.Common.{rules, ◌≡◌, [], ◌∷◌, ◌++◌, List, Bool, Option, Some, None, sym, ap, ◌∙◌}
use Rattle.std.specs.Prelude.{option_map}
use Rattle.std.specs.List.{find}
use Rattle.rz_expr.specs.Mention.{mentions, with_bits, Mention}
use Rattle.rz_expr.specs.Mentioned.{mention_of}
use Rattle.rz_expr.specs.Term.{term_of}
use Rattle.rz_expr.specs.declared.expr.Expr.{Expr}
use Rattle.rz_expr.proofs.Items.{found_left, found_right}
use Rattle.rz_expr.proofs.mention.+first_mention.Goals as goal

-- of bits, in the start
pub returns-in-Some-first_mention : goal.returns-in-Some-first_mention
returns-in-Some-first_mention g t c =
    let test : Mention → Bool = g.T.MentionTest.test c.args.test.now in
    let one : Mention = mention_of c.in-Some-first_mention.mention in
    let name : List Mention = with_bits c.in-Bits.name.bytes ∷ [] in
    let start : List Mention = mentions (term_of c.in-Bits.start.value) in
    let width : List Mention = mentions (term_of c.in-Bits.width.value) in
    let unnamed : ◌≡◌ {A = Option Mention} None (find (g.T.MentionTest.test c.args.test.now) (with_bits c.in-Bits.name.bytes ∷ [])) = search rules in
    let is : ◌≡◌ {A = Option Mention} (Some (mention_of c.in-Some-first_mention.mention)) (find (g.T.MentionTest.test c.args.test.now) (mentions (term_of c.in-Bits.start.value))) = search rules in
    found_right test name (start ++ width) (Some one) unnamed (found_left test start width one is) ∙ ap (λ (e : Expr). find test (mentions (term_of e))) (sym c.in-Bits.is)

-- or in the width
pub returns-in-None-first_mention : goal.returns-in-None-first_mention
returns-in-None-first_mention g t c =
    let test : Mention → Bool = g.T.MentionTest.test c.args.test.now in
    let name : List Mention = with_bits c.in-Bits.name.bytes ∷ [] in
    let start : List Mention = mentions (term_of c.in-Bits.start.value) in
    let width : List Mention = mentions (term_of c.in-Bits.width.value) in
    let unnamed : ◌≡◌ {A = Option Mention} None (find (g.T.MentionTest.test c.args.test.now) (with_bits c.in-Bits.name.bytes ∷ [])) = search rules in
    let none : ◌≡◌ {A = Option Mention} None (find (g.T.MentionTest.test c.args.test.now) (mentions (term_of c.in-Bits.start.value))) = search rules in
    let is : option_map mention_of c.first_mention-in-None-first_mention.result ≡ find (g.T.MentionTest.test c.args.test.now) (mentions (term_of c.in-Bits.width.value)) = search rules in
    let found : Option Mention = option_map mention_of c.first_mention-in-None-first_mention.result in
    found_right test name (start ++ width) found unnamed (found_right test start width found none is) ∙ ap (λ (e : Expr). find test (mentions (term_of e))) (sym c.in-Bits.is)

-- of two operands, in the left one
pub returns-in-Some-first_mention-2 : goal.returns-in-Some-first_mention-2
returns-in-Some-first_mention-2 g t c =
    let test : Mention → Bool = g.T.MentionTest.test c.args.test.now in
    let one : Mention = mention_of c.in-Some-first_mention-2.mention in
    let left : List Mention = mentions (term_of c.in-Binary.left.value) in
    let right : List Mention = mentions (term_of c.in-Binary.right.value) in
    let is : ◌≡◌ {A = Option Mention} (Some (mention_of c.in-Some-first_mention-2.mention)) (find (g.T.MentionTest.test c.args.test.now) (mentions (term_of c.in-Binary.left.value))) = search rules in
    found_left test left right one is ∙ ap (λ (e : Expr). find test (mentions (term_of e))) (sym c.in-Binary.is)

-- or in the right one
pub returns-in-None-first_mention-2 : goal.returns-in-None-first_mention-2
returns-in-None-first_mention-2 g t c =
    let test : Mention → Bool = g.T.MentionTest.test c.args.test.now in
    let left : List Mention = mentions (term_of c.in-Binary.left.value) in
    let right : List Mention = mentions (term_of c.in-Binary.right.value) in
    let none : ◌≡◌ {A = Option Mention} None (find (g.T.MentionTest.test c.args.test.now) (mentions (term_of c.in-Binary.left.value))) = search rules in
    let is : option_map mention_of c.first_mention-in-None-first_mention-2.result ≡ find (g.T.MentionTest.test c.args.test.now) (mentions (term_of c.in-Binary.right.value)) = search rules in
    let found : Option Mention = option_map mention_of c.first_mention-in-None-first_mention-2.result in
    found_right test left right found none is ∙ ap (λ (e : Expr). find test (mentions (term_of e))) (sym c.in-Binary.is)
