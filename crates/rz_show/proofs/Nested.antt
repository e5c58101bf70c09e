-- The lines of items that are left, one line less.
use Rattle.std.proofs.Common.{◌≡◌, ℕ, suc, Bool, true, false, List, [], ◌∷◌, ◌++◌, length, Option, Some, None, refl, sym, ap, ◌∙◌, arith, append_assoc}
use Rattle.std.specs.Option.{is_none, is_some}
use Rattle.std.specs.Prelude.{not}
use Rattle.rz_lex.specs.declared.sign.Sign.TheVariants as signs
use Rattle.rz_show.specs.declared.open_list.OpenList.{OpenList}
use Rattle.rz_show_lines.specs.declared.text.Text.{Text}
use Rattle.rz_show_lines.specs.Cut.{cut}
use Rattle.rz_show.specs.Lines.{behind_lines, block_print, closing, comma_if, left, level, open_lines, opening, GivesLine}
use Rattle.rz_show_lines.specs.Texts.{behind_piece, pending_lines}
use Rattle.rz_show_lines.specs.Print.{comma, deeper, list_lines, margin, piece_written, print, print_lines, text_lines, Print, Prints}
use Rattle.rz_show_lines.specs.Written.{a_sign, as_line, Written}

deeper_is : (outer : ℕ) → deeper (level outer) ≡ level (suc outer)
deeper_is outer = omega arith

module _ (hidden : List ℕ → Bool) where
  -- the first item of a list
  pub item_front : (item : Print) (list others : OpenList) (outer : List OpenList) → left hidden list ≡ print item (left hidden others)
      → open_lines hidden None list outer ≡ print_lines (level (length outer)) (comma (left hidden others)) item ++ behind_lines hidden others outer
  item_front item list others outer is =
      ap (λ (items : Prints). list_lines (level (length outer)) items ++ closing hidden outer) is
      ∙ append_assoc (print_lines (level (length outer)) (comma (left hidden others)) item) (list_lines (level (length outer)) (left hidden others)) (closing hidden outer)

  -- items in braces
  pub block_front : (name : Option (List ℕ)) (inner list : OpenList) (outer : List OpenList)
      → print_lines (level (length outer)) (comma (left hidden list)) (block_print name (left hidden inner)) ++ behind_lines hidden list outer
      ≡ (margin (level (length outer)) ++ opening name) ∷ open_lines hidden None inner (list ∷ outer)
  block_front name inner list outer =
      first name
      ∙ ap (λ (r : List (List Written)). (margin (level (length outer)) ++ opening name) ∷ r)
      (append_assoc (list_lines (deeper (level (length outer))) (left hidden inner)) (close ∷ []) (behind_lines hidden list outer)
      ∙ ap (λ (depth : ℕ). list_lines depth (left hidden inner) ++ close ∷ behind_lines hidden list outer) (deeper_is (length outer)))
    where
      close : List Written
      close = margin (level (length outer)) ++ a_sign signs.CloseBrace ∷ comma (left hidden list)

      first : (name : Option (List ℕ)) → print_lines (level (length outer)) (comma (left hidden list)) (block_print name (left hidden inner)) ++ behind_lines hidden list outer
          ≡ (margin (level (length outer)) ++ opening name) ∷ ((list_lines (deeper (level (length outer))) (left hidden inner) ++ close ∷ []) ++ behind_lines hidden list outer)
      first None = refl
      first (Some name) = refl

  -- a piece of a text
  pub piece_given : (at : ℕ) (hex : Bool) (bytes piece : List ℕ) (more : Option Text) (list : OpenList) (outer : List OpenList) (behind : Bool) (line : List ℕ) → at ≡ level (length outer)
      → text_lines (level (length outer)) (comma (left hidden list)) hex bytes
      ≡ (margin (level (length outer)) ++ piece_written hex piece ∷ behind_piece more (comma (left hidden list))) ∷ pending_lines (level (length outer)) (comma (left hidden list)) more
      → behind_piece more (comma (left hidden list)) ≡ comma_if behind
      → line ≡ cut (as_line (margin at ++ piece_written hex piece ∷ comma_if behind))
      → GivesLine line (text_lines (level (length outer)) (comma (left hidden list)) hex bytes ++ behind_lines hidden list outer) (open_lines hidden more list outer)
  piece_given at hex bytes piece more list outer behind line at-is first second line-is =
      let depth = level (length outer) in (
        margin depth ++ piece_written hex piece ∷ comma_if behind,
        ap (λ (r : List (List Written)). r ++ behind_lines hidden list outer) first
            ∙ ap (λ (r : List Written). (margin depth ++ piece_written hex piece ∷ r) ∷ open_lines hidden more list outer) second,
        line-is ∙ ap (λ (d : ℕ). cut (as_line (margin d ++ piece_written hex piece ∷ comma_if behind))) at-is,
      )

-- what stands after a piece: nothing where others follow
pub none_or_some : {A : Type 0} (more : Option A) (none : Bool) → is_some more ≡ not none → none ≡ is_none more
none_or_some more true is = ap not (sym is)
none_or_some more false is = ap not (sym is)

pub last_behind : (more : Option Text) (behind : List Written) → is_none more ≡ true → behind_piece more behind ≡ behind
last_behind None behind is = refl
last_behind (Some text) behind is = absurd (cc is)

pub none_behind : (more : Option Text) (behind : List Written) → is_none more ≡ false → behind_piece more behind ≡ []
none_behind None behind is = absurd (cc is)
none_behind (Some text) behind is = refl
