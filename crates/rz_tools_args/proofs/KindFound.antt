-- The type of a word, from its bytes.
use Rattle.std.proofs.Common.{◌≡◌, ℕ, List, ◌++◌, Option, Some, None, sym, ap, ◌∙◌}
use Rattle.rz_core.specs.Decided.{Decided}
use Rattle.rz_core.specs.declared.resource.OsType.{OsType}
use Rattle.rz_pre_source.specs.Source.{mark, IsTextOf}
use Rattle.rz_core.specs.Resources.{kind_of}
use Rattle.rz_tools_args.specs.Kind.{IsKind}

pub decided_kind : (word bytes : List ℕ) → IsTextOf (mark ++ word) bytes → ((others : List ℕ) → IsTextOf (mark ++ word) others → others ≡ bytes)
    → (found : Option OsType) → found ≡ kind_of bytes → Decided (IsKind word) found
decided_kind word bytes roman one None is = λ kind it. none kind (is ∙ ap kind_of (sym (one it.bytes it.roman)) ∙ it.is)
  where
    none : (kind : OsType) → ◌≡◌ {A = Option OsType} None (Some kind) → ⊥
    none kind same = cc same
decided_kind word bytes roman one (Some kind) is = record { bytes = bytes; roman = roman; is = sym is }
