-- What is said of a row by whole bytes is what its fields spell.
use Rattle.std.proofs.Common.{◌≡◌, ◌↔◌, ℕ, ◌+◌, ◌*◌, ◌^◌, ◌≤◌, true, false, List, [], ◌++◌, length, take, None, sym, ap, subst, ◌∙◌, arith}
use Rattle.std.proofs.lemmas.List.{append-nil, length-append, length-replicate, length-take-le, take_all}
use Rattle.rz_bits.specs.Bits.{bits_of}
use Rattle.rz_bits.specs.BitBuf.{filled, missing, zeros}
use Rattle.rz_bits.proofs.Bytes.{length-bits_of}
use Rattle.rz_core.specs.declared.facts.Facts.{Facts}
use Rattle.rz_tmpl.specs.Body.{lists_of, tmpl_body}
use Rattle.rz_tmpl.specs.Items.{is_kept, waits, Items}
use Rattle.rz_tmpl_laws.proofs.Names.{start_held}
use Rattle.rz_tmpl_laws.proofs.Said.{said}
use Rattle.rz_tmpl_laws.proofs.Spelled.{has_for, names_for, spelled, within_for}
use Rattle.rz_tmpl_laws.specs.Says.{BodySays, Says}
use Rattle.rz_types_fields.specs.Passed.{at_front, nothing_passed, outside}
use Rattle.rz_types_fields.specs.Spells.{SpellsPlainly}
use Rattle.rz_types_fields.specs.declared.tree.Tree.{Tree}

-- whole bytes are filled
whole_end : (bytes : List ℕ) (end next : ℕ) → end ≡ 8 * next → end ≤ length (bits_of bytes) → bits_of bytes ≡ filled 8 (take end (bits_of bytes)) → next ≡ length bytes
whole_end bytes end next is within full =
    let front = take end (bits_of bytes) in
    let size : length front ≡ end = length-take-le end (bits_of bytes) within in
    let long = length-bits_of bytes in
    let sum : length (bits_of bytes) ≡ length front + missing 8 (length front) = ap length full ∙ length-append front (zeros (missing 8 (length front))) ∙ ap (λ (n : ℕ). length front + n) (length-replicate (missing 8 (length front)) false) in
    let sized : length (bits_of bytes) ≡ end + missing 8 end = sum ∙ ap (λ (n : ℕ). n + missing 8 n) size in
    omega (arith, is, long, sized)

full_bytes : (bytes : List ℕ) → bits_of bytes ≡ filled 8 (take (8 * length bytes) (bits_of bytes))
full_bytes bytes =
    let long = length-bits_of bytes in
    let front : take (8 * length bytes) (bits_of bytes) ≡ bits_of bytes = take_all (8 * length bytes) (bits_of bytes) (omega (arith, long)) in
    let none : missing 8 (length (bits_of bytes)) ≡ 0 = omega (arith, long) in
    sym (ap (filled 8) front ∙ ap (λ (n : ℕ). bits_of bytes ++ zeros n) none ∙ append-nil (bits_of bytes))

pub said_is : ((known : Facts) (items : Items) (row : List Tree) (bytes : List ℕ) → SpellsPlainly known (tmpl_body items) row bytes → length bytes ≤ 16777212)
    → (known : Facts) (items : Items) (row : List Tree) (bytes : List ℕ) → is_kept 60 false items ≡ true → waits false items ≡ false → 1 + lists_of items ≤ 2 ^ 64
    → SpellsPlainly known (tmpl_body items) row bytes ↔ Says items row bytes
said_is short known items row bytes kept ends few = (to_said, to_spelled)
  where
    to_said : SpellsPlainly known (tmpl_body items) row bytes → Says items row bytes
    to_said plain =
        let is = plain.spelling in
        let it = said known bytes is.are_bytes 60 1 false items is.names (at_front (tmpl_body items) nothing_passed) row 0 [] is.end is.late kept ends few (λ j low high apart. start_held 1 items j) is.fields in
        record {
          said = subst (λ (n : ℕ). BodySays bytes items row 0 n) (whole_end bytes is.end it.0 it.1 is.within is.filled) it.2;
          few = plain.few;
          short = short known items row bytes plain;
          are_bytes = is.are_bytes;
        }

    to_spelled : Says items row bytes → SpellsPlainly known (tmpl_body items) row bytes
    to_spelled is =
        let names = names_for 1 items row None outside in
        let it = spelled known bytes is.are_bytes is.short 60 1 false items names (at_front (tmpl_body items) nothing_passed) row 0 [] (length bytes) kept ends few (omega arith)
        (has_for 1 items row None outside) is.said in
        let long = length-bits_of bytes in
        record {
          spelling = record {
            names = names;
            own = within_for 1 items row None outside;
            end = 8 * length bytes;
            late = it.0;
            fields = it.2;
            filled = full_bytes bytes;
            within = omega (arith, long);
            are_bytes = is.are_bytes;
          };
          few = is.few;
        }
