use Rattle.std.proofs.Common.{◌≡◌, ℕ, ◌≤◌, Bool, true, false, List, [], ◌∷◌, length, Some, ap, subst, ◌∙◌}
use Rattle.std.specs.Prelude.{if◌then◌else◌}
use Rattle.std.specs.List.{AllByRecursion}
use Rattle.rz_core.proofs.Tests.{by_test}
use Rattle.rz_core.specs.declared.resource.Word.{Word}
use Rattle.rz_types_fields.specs.declared.field.Symbol.{Symbol}
use Rattle.rz_types.specs.Value.{symbol_value}
use Rattle.rz_show.specs.Number.{is_stored, symbol_for}
use Rattle.rz_show_lines.specs.Written.{IsName}
use Rattle.rz_show.proofs.number.number_shown.Goals as goal

abbrev AreNamed : List Symbol → Type 0
AreNamed symbols = AllByRecursion (λ (symbol : Symbol). IsName symbol.name.bytes) symbols

short_name : (all : List Symbol) (width n : ℕ) (symbols : List Symbol) (name : Word) → AreNamed symbols → Some name ≡ symbol_for all width n symbols → length name.bytes ≤ 255
short_name all width n [] name named is = cc
short_name all width n (s ∷ symbols) name named is =
    let gives = is_stored width n (symbol_value all s.name.bytes) in
    let first : (b : Bool) → gives ≡ b → Some name ≡ (if b then Some s.name else symbol_for all width n symbols) =
    λ b h. is ∙ ap (λ (t : Bool). if t then Some s.name else symbol_for all width n symbols) h in
    by_test (length name.bytes ≤ 255) gives
    (λ h. let same : s.name ≡ name = cc (first true h) in subst (λ (w : Word). length w.bytes ≤ 255) same named.0.1)
    (λ h. short_name all width n symbols name named.1 (first false h))

pub is_hidden-requires : goal.is_hidden-requires
is_hidden-requires c =
    let symbols = c.args.field.now.symbols in
    let short : length c.in-Some.name.now.bytes ≤ 255 =
    short_name symbols _ c.args.number symbols c.in-Some.name.now c.requires.names c.in-Some.ensures in
    rw c.as_slice-name.ensures short
