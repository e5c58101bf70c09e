-- A list of resources is shown by one text at most.
use Rattle.std.proofs.Common.{◌≡◌, ℕ, List, [], ◌∷◌, ◌++◌, Option, sym, ap, ◌∙◌}
use Rattle.rz_core.specs.declared.facts.Facts.{Facts}
use Rattle.rz_core.specs.declared.resource.Resource.{Resource}
use Rattle.rz_types_fields.specs.declared.tree.Tree.{Tree}
use Rattle.rz_show.specs.Showing.{by_row, showing_text, Showing}
use Rattle.rz_types_table.specs.Table.{declared_for}
use Rattle.rz_tools_text.specs.Shown.{its_bytes, its_row, IsShownBy, Known, Shown, TellsRow}
use Rattle.rz_tools_text.specs.Text.{ShowsEach}
use Rattle.rz_types.specs.Field.{PlainBody}
use Rattle.rz_unlay.specs.Reading.{facts_of, IsTree}

-- bytes tell one row at most as a tree
abbrev pub OneTree : Type 0
OneTree =
    (fields : Option PlainBody) (known : Facts) (bytes : List ℕ) (body another : PlainBody) (row other : List Tree)
    → IsTree fields known bytes body row → IsTree fields known bytes another other → (body ≡ another) × (row ≡ other)

module _ (one : OneTree) (known : Known) where
  pub same_tree : (r : Resource) (body another : PlainBody) (row other : List Tree) → TellsRow known r body row → TellsRow known r another other → (body ≡ another) × (row ≡ other)
  same_tree r body another row other tells also = one (declared_for known.types r) (facts_of known.moment r) r.bytes body another row other tells.tree also.tree

  one_row : (r : Resource) (body another : PlainBody) (row other : List Tree) → TellsRow known r body row → TellsRow known r another other → by_row r body row ≡ by_row r another other
  one_row r body another row other tells also = let same = same_tree r body another row other tells also in λ i. by_row r (same.0 i) (same.1 i)

  pub one_showing : (r : Resource) (showing other : Showing) → IsShownBy known r showing → IsShownBy known r other → showing ≡ other
  one_showing r showing other (its_row body row tells is) (its_row another others also so) = is ∙ one_row r body another row others tells also ∙ sym so
  one_showing r showing other (its_row body row tells is) (its_bytes none so) = absurd (none body row tells)
  one_showing r showing other (its_bytes none is) (its_row body row tells so) = absurd (none body row tells)
  one_showing r showing other (its_bytes none is) (its_bytes nothing so) = is ∙ sym so

  one_shown : (r : Resource) (text others : List ℕ) → Shown known r text → Shown known r others → text ≡ others
  one_shown r text others (showing, by, is) (other, also, so) = is ∙ ap (showing_text known.is_macro) (one_showing r showing other by also) ∙ sym so

  pub one_text : (list : List Resource) (text others : List ℕ) → ShowsEach known list text → ShowsEach known list others → text ≡ others
  one_text [] text others is also = is ∙ sym also
  one_text (r ∷ rs) text others (f, b, eq, shown, shows) (g, c, eq_too, shown_too, shows_too) =
      eq ∙ (λ i. one_shown r f g shown shown_too i ++ one_text rs b c shows shows_too i) ∙ sym eq_too
