use Rattle.std.proofs.Common.{◌≡◌, ℕ, ◌&&◌, List, sym, ap, subst, ◌∙◌}
use Rattle.rz_words.specs.Words.{is_label, role_of}
use Rattle.rz_lex.specs.Cutting.{Cuts}
use Rattle.rz_tools_args.specs.Definition.{nowhere}
use Rattle.rz_tools_args.specs.Line.{is_one_word}
use Rattle.rz_tools_args.proofs.Found.{found_so, none_so}
use Rattle.rz_tools_args.proofs.Names.{alone, named, not_named}
use Rattle.rz_tools_args.proofs.definition.name_in.Goals as goal

pub returns-in_default : goal.returns-in_default
returns-in_default c word is =
    let same : c.in_ok-of.field-0 ≡ c.args.name.now = c.in_ok-of.ensures ∙ c.as_bytes.ensures.value in
    none_so (Cuts nowhere c.in_ok-of.field-0) _ c.in_ok-tokens.ensures c.in_default.is (alone word) (subst (λ (b : List ℕ). Cuts nowhere b (alone word)) (sym same) is.one)

pub returns-then-is_free_word : goal.returns-then-is_free_word
returns-then-is_free_word c =
    let same : c.in_ok-of.field-0 ≡ c.args.name.now = c.in_ok-of.ensures ∙ c.as_bytes.ensures.value in
    named c.in-Some.tokens c.args.name.now c.in_ok-of-2.field-0 (c.in_ok-of-2.ensures ∙ c.as_bytes-2.ensures.value)
    (subst (λ (b : List ℕ). Cuts nowhere b c.in-Some.tokens) same (found_so (Cuts nowhere c.in_ok-of.field-0) _ c.in-Some.tokens c.in_ok-tokens.ensures c.in-Some.is))
    (ap (λ ts. is_one_word ts c.in_ok-of-2.field-0 && is_label (role_of c.in_ok-of-2.field-0)) (sym c.as_slice.ensures) ∙ sym c.if-is_free_word.ensures)

pub returns : goal.returns
returns c word is =
    let same : c.in_ok-of.field-0 ≡ c.args.name.now = c.in_ok-of.ensures ∙ c.as_bytes.ensures.value in
    not_named c.in-Some.tokens c.args.name.now c.in_ok-of-2.field-0 (c.in_ok-of-2.ensures ∙ c.as_bytes-2.ensures.value)
    (ap (λ ts. is_one_word ts c.in_ok-of-2.field-0 && is_label (role_of c.in_ok-of-2.field-0)) (sym c.as_slice.ensures) ∙ sym c.if-is_free_word.ensures)
    word is
    (c.one_cut.ensures.tokens nowhere c.args.name.now c.in-Some.tokens (alone word)
    (subst (λ (b : List ℕ). Cuts nowhere b c.in-Some.tokens) same (found_so (Cuts nowhere c.in_ok-of.field-0) _ c.in-Some.tokens c.in_ok-tokens.ensures c.in-Some.is))
    is.one)
