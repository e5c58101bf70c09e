-- Tokens are one frame at most, and of all tokens it is decided which.
use Rattle.std.proofs.Common.{◌≡◌, true, List, length, Option, refl, sym, ap, subst, ◌∙◌, arith}
use Rattle.std.proofs.Math.Decide.{map_dec}
use Rattle.std.specs.List.{AllByRecursion}
use Rattle.rz_core.proofs.EveryCut.{both, is_true, known_of, known_with}
use Rattle.rz_core.specs.Decided.{Decided}
use Rattle.rz_expr.proofs.OneTerm.{OneExpression}
use Rattle.rz_expr.specs.Grammar.{IsExpression}
use Rattle.rz_expr.specs.Term.{Term}
use Rattle.rz_words.specs.declared.keyword.Keyword.{Keyword}
use Rattle.rz_lex.specs.declared.token.Token.{Token}
use Rattle.rz_stmt_brackets.proofs.OneBracket.{one_bracketed}
use Rattle.rz_stmt_brackets.proofs.OneCut.{one_cut, some_pieces}
use Rattle.rz_stmt_brackets.proofs.Parts.{after_each, within_each}
use Rattle.rz_stmt_brackets.specs.Bracket.{IsBracketed}
use Rattle.rz_stmt_brackets.specs.Pieces.{AreCut, Parted}
use Rattle.rz_stmt_brackets.specs.Statements.{is_empty}
use Rattle.rz_stmt_brackets.specs.declared.bracket.Bracket.{Bracket}
use Rattle.rz_stmt_brackets.specs.declared.bracket.Bracket.TheVariants.{Curly, Round}
use Rattle.rz_stmt_brackets.specs.declared.pieces.Divider.TheVariants.{Comma}
use Rattle.rz_stmt_data.proofs.EveryHead.{is_head_for}
use Rattle.rz_stmt_data.proofs.OneHead.{one_head}
use Rattle.rz_stmt_data.proofs.InFront.{is_typed, one_typed, typed_each}
use Rattle.rz_stmt_data.specs.Frame.{Frame, IsBody, IsFrame}
use Rattle.rz_stmt_data.specs.Head.{Head, IsHead}
use Rattle.rz_stmt_data.specs.Typed.{IsTyped, Typed}
use Rattle.rz_stmt_data.specs.declared.head.Subject.TheVariants.{New}

pub one_body : (tokens inside other : List Token) → IsBody tokens inside → IsBody tokens other → inside ≡ other
one_body tokens inside other is also = sym is.3 ∙ ap (λ (p : Parted). p.front) (one_bracketed Curly tokens is.0 also.0 is.1 also.1) ∙ also.3

-- the brackets of a frame stand after its type
pub brackets_behind : (keyword : Keyword) (tokens : List Token) (frame : Frame) (is : IsFrame keyword tokens frame) (typed : Typed) → IsTyped keyword tokens typed
    → IsBracketed Round typed.behind is.brackets
brackets_behind keyword tokens frame is typed also =
    subst (λ (t : Typed). IsBracketed Round t.behind is.brackets) (one_typed keyword tokens _ typed is.typed also) is.in_brackets

-- Two frames of the same tokens.

module _ (keyword : Keyword) (tokens : List Token) (a b : Frame) (is : IsFrame keyword tokens a) (also : IsFrame keyword tokens b) where
  same_typed : ◌≡◌ {A = Typed} (record { kind = a.kind; behind = is.behind }) (record { kind = b.kind; behind = also.behind })
  same_typed = one_typed keyword tokens _ _ is.typed also.typed

  same_brackets : is.brackets ≡ also.brackets
  same_brackets = one_bracketed Round also.behind is.brackets also.brackets (brackets_behind keyword tokens a is _ also.typed) also.in_brackets

  pub same_inside : a.inside ≡ b.inside
  same_inside = one_body also.brackets.behind a.inside b.inside (subst (λ (p : Parted). IsBody p.behind a.inside) same_brackets is.has_body) also.has_body

  same_head : OneExpression → a.head ≡ b.head
  same_head one =
      let pieces = one_cut Comma also.brackets.front is.pieces also.pieces (subst (λ (p : Parted). AreCut Comma p.front is.pieces) same_brackets is.are_cut) also.are_cut in
      one_head one also.pieces a.head b.head (subst (λ (ps : List (List Token)). IsHead ps a.head) pieces is.has_head) also.has_head

pub one_frame : OneExpression → (keyword : Keyword) (tokens : List Token) (a b : Frame) → IsFrame keyword tokens a → IsFrame keyword tokens b → a ≡ b
one_frame one keyword tokens a b is also =
    let typed = same_typed keyword tokens a b is also in
    let head = same_head keyword tokens a b is also one in
    let inside = same_inside keyword tokens a b is also in
    λ i. record { kind = (typed i).kind; head = head i; inside = inside i }

-- what holds of each token holds of each in the braces
pub frame_each : (P : Token → Type 0) (keyword : Keyword) (tokens : List Token) (frame : Frame) → IsFrame keyword tokens frame → AllByRecursion P tokens → AllByRecursion P frame.inside
frame_each P keyword tokens frame is are =
    let behind = after_each P Round is.behind is.brackets is.in_brackets (typed_each keyword P tokens _ is.typed are) in
    subst (AllByRecursion P) is.has_body.3 (within_each P Curly is.brackets.behind is.has_body.0 is.has_body.1 behind)

-- Of all tokens it is decided.

module _ (one : OneExpression) (expression : (tokens : List Token) → (answer : Option Term) × Decided (IsExpression tokens) answer)
    (within : (bracket : Bracket) (tokens : List Token) → (answer : Option Parted) × Decided (IsBracketed bracket tokens) answer) where
  in_brackets : (bracket : Bracket) (tokens : List Token) → Dec ((parted : Parted) × IsBracketed bracket tokens parted)
  in_brackets bracket tokens = known_of (IsBracketed bracket tokens) (within bracket tokens)

  abbrev Body : List Token → Type 0
  Body tokens = (inside : List Token) × IsBody tokens inside

  is_body : (tokens : List Token) → Dec (Body tokens)
  is_body tokens =
      map_dec to from (known_with (IsBracketed Curly tokens) (λ braces. is_empty braces.behind ≡ true) (one_bracketed Curly tokens) (in_brackets Curly tokens)
      (λ braces is. is_true (is_empty braces.behind)))
    where
      to : (braces : Parted) × IsBracketed Curly tokens braces × (is_empty braces.behind ≡ true) → Body tokens
      to (braces, is, ends) = (braces.front, (braces, is, ends, refl))

      from : Body tokens → (braces : Parted) × IsBracketed Curly tokens braces × (is_empty braces.behind ≡ true)
      from (inside, (braces, is, ends, same)) = (braces, is, ends)

  abbrev HeadPieces : List Token → Type 0
  HeadPieces tokens = (pieces : List (List Token)) × AreCut Comma tokens pieces × ((head : Head) × IsHead pieces head)

  abbrev Headed : List Token → Type 0
  Headed tokens = (brackets : Parted) × IsBracketed Round tokens brackets × (HeadPieces brackets.front × Body brackets.behind)

  is_headed : (tokens : List Token) → Dec (Headed tokens)
  is_headed tokens =
      known_with (IsBracketed Round tokens) (λ brackets. HeadPieces brackets.front × Body brackets.behind) (one_bracketed Round tokens) (in_brackets Round tokens)
      (λ brackets is. both (head_pieces brackets.front) (is_body brackets.behind))
    where
      head_pieces : (front : List Token) → Dec (HeadPieces front)
      head_pieces front = known_with (AreCut Comma front) (λ pieces. (head : Head) × IsHead pieces head) (one_cut Comma front) (yes (some_pieces Comma (length front) front (omega arith))) (λ pieces cut. is_head_for one expression within New pieces)

  pub is_frame : (keyword : Keyword) (tokens : List Token) → Dec ((frame : Frame) × IsFrame keyword tokens frame)
  is_frame keyword tokens = map_dec to from (known_with (IsTyped keyword tokens) (λ typed. Headed typed.behind) (one_typed keyword tokens) (is_typed keyword tokens) (λ typed is. is_headed typed.behind))
    where
      to : (typed : Typed) × IsTyped keyword tokens typed × Headed typed.behind → (frame : Frame) × IsFrame keyword tokens frame
      to (typed, is, (brackets, round, ((pieces, cut, (head, heads)), (inside, body)))) = (
        record { kind = typed.kind; head = head; inside = inside },
        record {
          behind = typed.behind;
          brackets = brackets;
          pieces = pieces;
          typed = is;
          in_brackets = round;
          are_cut = cut;
          has_head = heads;
          has_body = body;
        },
      )

      from : (frame : Frame) × IsFrame keyword tokens frame → (typed : Typed) × IsTyped keyword tokens typed × Headed typed.behind
      from (frame, h) =
          (record { kind = frame.kind; behind = h.behind }, h.typed, (h.brackets, h.in_brackets, ((h.pieces, h.are_cut, (frame.head, h.has_head)), (frame.inside, h.has_body))))
