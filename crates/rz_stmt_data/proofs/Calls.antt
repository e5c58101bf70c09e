-- The first tokens of a part tell which it is, and what stands in brackets tells the rest.
use Rattle.std.proofs.Common.{◌≡◌, ℕ, List, [], ◌∷◌, Option, Some, None, refl, sym, subst, ◌∙◌}
use Rattle.rz_stmt_brackets.specs.Bracket.{IsBracketed}
use Rattle.rz_stmt_brackets.specs.Pieces.{AreCut, Parted}
use Rattle.rz_stmt_brackets.specs.declared.bracket.Bracket.TheVariants.{Round}
use Rattle.rz_stmt_brackets.specs.declared.pieces.Divider.TheVariants.{Comma}
use Rattle.rz_core.proofs.Tests.{none_some, same_some}
use Rattle.rz_core.specs.Decided.{Decided}
use Rattle.rz_types_fields.specs.Text.{PlainPart}
use Rattle.rz_lex.specs.declared.token.Token.{Token}
use Rattle.rz_stmt_data.specs.Files.{IsFile}
use Rattle.rz_stmt_data.specs.Steps.{IsAsked, IsCalledPair, IsFormatted, IsFrontPair}
use Rattle.rz_stmt_data.specs.Texts.{alone, asks, call_in, called, formats, part_in, reads, IsCall, IsFront}
use Rattle.rz_stmt_data.specs.declared.texts.TextCall.{TextCall}
use Rattle.rz_stmt_data.specs.declared.texts.TextCall.TheVariants.{Format, Read, Resource}
use Rattle.rz_stmt_data.proofs.OneText.{same_more, same_three}

-- The part at the front.

called_only : (first : Token) (rest : List Token) (call : TextCall) (part : PlainPart) (behind : List Token) → part_in first.shape ≡ None → call_in first.shape ≡ Some call
    → IsFront (first ∷ rest) part behind → IsCalledPair call rest (part, behind)
called_only first rest call part behind none has (alone same others p is) = absurd (none_some part (sym none ∙ is))
called_only first rest call part behind none has (called same others other parted p also brackets so) =
    (parted, brackets, subst (λ (c : TextCall). IsCall c parted.front part) (same_some (call_in first.shape) other call also has) so, refl)

module _ (tokens rest : List Token) (first : Token) (are : tokens ≡ first ∷ rest) where
  pub alone_here : (part : PlainPart) → part_in first.shape ≡ Some part → IsFront tokens part rest
  alone_here part is = subst (λ (ts : List Token). IsFront ts part rest) (sym are) (alone first rest part is)

  pub called_here : (call : TextCall) → part_in first.shape ≡ None → call_in first.shape ≡ Some call → (found : Option (PlainPart × List Token))
      → Decided (IsCalledPair call rest) found → Decided (IsFrontPair tokens) found
  called_here call none has None never = λ pair is.
      never pair (called_only first rest call pair.0 pair.1 none has (subst (λ (ts : List Token). IsFront ts pair.0 pair.1) are is))
  called_here call none has (Some pair) is =
      subst (λ (ts : List Token). IsFront ts pair.0 pair.1) (sym are)
      (subst (λ (ts : List Token). IsFront (first ∷ rest) pair.0 ts) (sym is.3) (called first rest call is.0 pair.0 has is.1 is.2))

-- The brackets of a function.

pub called_nowhere : (call : TextCall) (tokens : List Token) (split : Parted) → ((parted : Parted) → IsBracketed Round tokens parted → split ≡ parted)
    → ((part : PlainPart) → IsCall call split.front part → ⊥) → (pair : PlainPart × List Token) → IsCalledPair call tokens pair → ⊥
called_nowhere call tokens split every never pair is = never pair.0 (subst (λ (p : Parted). IsCall call p.front pair.0) (sym (every is.0 is.1)) is.2)

-- no `$$Read` is of anything but a file
pub read_nowhere : (tokens : List Token) → ((file : List ℕ) → IsFile tokens file → ⊥) → (part : PlainPart) → IsCall Read tokens part → ⊥
read_nowhere tokens never part (reads same file is) = never file is

-- The pieces in them.

abbrev pub AsksThree : List Token → PlainPart → Type 0
AsksThree tokens part = (file kind asked : List Token) × AreCut Comma tokens (file ∷ kind ∷ asked ∷ []) × IsAsked file kind asked part

pub three_asked : (tokens : List Token) (part : PlainPart) → IsCall Resource tokens part → AsksThree tokens part
three_asked tokens part (asks same file kind asked name code key cut is_file has_kind is_key) =
    (file, kind, asked, cut, (name, code, key, is_file, has_kind, is_key, refl))

abbrev pub FormatsText : List Token → PlainPart → Type 0
FormatsText tokens part = (said : List Token) × (others : List (List Token)) × AreCut Comma tokens (said ∷ others) × IsFormatted said others part

pub text_formatted : (tokens : List Token) (part : PlainPart) → IsCall Format tokens part → FormatsText tokens part
text_formatted tokens part (formats same said others bytes arguments cut has all) = (said, others, cut, (bytes, arguments, has, all, refl))

module _ (tokens : List Token) (pieces : List (List Token)) (every : (others : List (List Token)) → AreCut Comma tokens others → pieces ≡ others) where
  pub asked_decided : (file kind asked : List Token) → AreCut Comma tokens pieces → pieces ≡ file ∷ kind ∷ asked ∷ []
      → (found : Option PlainPart) → Decided (IsAsked file kind asked) found → Decided (IsCall Resource tokens) found
  asked_decided file kind asked cut are None never = λ part is.
      let it = three_asked tokens part is in
      let same = same_three file kind asked it.0 it.1 it.2 (sym are ∙ every (it.0 ∷ it.1 ∷ it.2 ∷ []) it.3) in
      never part (subst (λ (ts : List Token). IsAsked ts kind asked part) (sym same.0)
      (subst (λ (ts : List Token). IsAsked it.0 ts asked part) (sym same.1) (subst (λ (ts : List Token). IsAsked it.0 it.1 ts part) (sym same.2) it.4)))
  asked_decided file kind asked cut are (Some part) is =
      subst (IsCall Resource tokens) (sym is.6)
      (asks tokens file kind asked is.0 is.1 is.2 (subst (AreCut Comma tokens) are cut) is.3 is.4 is.5)

  pub formatted_decided : (said : List Token) (others : List (List Token)) → AreCut Comma tokens pieces → pieces ≡ said ∷ others
      → (found : Option PlainPart) → Decided (IsFormatted said others) found → Decided (IsCall Format tokens) found
  formatted_decided said others cut are None never = λ part is.
      let it = text_formatted tokens part is in
      let same = same_more said it.0 others it.1 (sym are ∙ every (it.0 ∷ it.1) it.2) in
      never part (subst (λ (ts : List Token). IsFormatted ts others part) (sym same.0) (subst (λ (ps : List (List Token)). IsFormatted it.0 ps part) (sym same.1) it.3))
  formatted_decided said others cut are (Some part) is =
      subst (IsCall Format tokens) (sym is.4) (formats tokens said others is.0 is.1 (subst (AreCut Comma tokens) are cut) is.2 is.3)
