-- A row spells bytes exactly if it is these bytes as a list of placed pieces.
use Rattle.std.proofs.Common.{◌≡◌, ◌↔◌, ℕ, ◌+◌, ◌≤◌, List, [], ◌∷◌, ◌++◌, Bool, length, take, drop, replicate, None, refl, ap, sym, subst, ◌∙◌, arith}
use Rattle.std.proofs.lemmas.List.{append_assoc, append-nil, drop_at, length-append, take_at}
use Rattle.rz_core.specs.declared.facts.Facts.{Facts}
use Rattle.rz_expr.specs.Environment.{Environment}
use Rattle.rz_bits.specs.Bits.{bits_of}
use Rattle.rz_bits.specs.BitBuf.{filled, missing, zeros}
use Rattle.rz_types_fields.specs.Field.{PlainBody}
use Rattle.rz_types_fields.specs.Passed.{at_front, nothing_passed, outside}
use Rattle.rz_types_fields.specs.Sees.{Late}
use Rattle.rz_types_fields.specs.Spells.{most_bits, plainly, values_in, BodySpells, Manner, RowSpells, Spelling, SpellsPlainly}
use Rattle.rz_types_fields.specs.declared.tree.Tree.{Tree}
use Rattle.rz_laws.proofs.Chains.{chain_ends, chain_parts, chain_short, chain_there, inside_lists, inside_threads, Chain, IsThere, Links}
use Rattle.rz_laws.proofs.Listed.{body_lists, body_threads}
use Rattle.rz_laws.specs.Placed.{bits_in, marks_in, ArePieces, BodyPlaced, IsPlaced, Placed, StandsAfter}

bits_both : (front back : List Placed) → bits_in (front ++ back) ≡ bits_in front ++ bits_in back
bits_both [] back = refl
bits_both (one ∷ front) back = ap (λ (bits : List Bool). one.bits ++ bits) (bits_both front back) ∙ sym (append_assoc one.bits (bits_in front) (bits_in back))

marks_both : (front back : List Placed) → marks_in (front ++ back) ≡ marks_in front ++ marks_in back
marks_both [] back = refl
marks_both (one ∷ front) back =
    ap (λ (marks : Late). replicate (length one.bits) one.late ++ marks) (marks_both front back)
    ∙ sym (append_assoc (replicate (length one.bits) one.late) (marks_in front) (marks_in back))

module _ (how : Manner) (known : Facts) (all : List Bool) where
  -- Each piece of a chain stands after those before it.
  pub stands_after : (pieces : List Placed) (end : ℕ) (late : Late) → Chain how known all pieces 0 [] end late
      → (before : List Placed) (one : Placed) (others : List Placed) → pieces ≡ before ++ one ∷ others → StandsAfter how known all before one
  stands_after pieces end late chain before one others are =
      let parts = chain_parts how known all before (one ∷ others) 0 [] end late (subst (λ (ps : List Placed). Chain how known all ps 0 [] end late) are chain) in
      let ends = chain_ends how known all before 0 [] parts.0 parts.1 parts.2 in
      let link = parts.3.2 in
      let far = ends.0 in
      let place : parts.0 ≡ length (bits_in before) = omega (arith, far) in
      let it = subst (IsThere how known all one one.at) ends.1 (subst (λ (k : ℕ). IsThere how known all one k parts.1) (sym link.begins) link.is) in
      record { at = link.begins ∙ place; stored = it.0; manner = it.1; late = it.2; early = it.3 }

  -- And pieces of which each does are a chain, where their bits stand one after the other.
  module _ (pieces : List Placed) (more : List Bool) (are : all ≡ bits_in pieces ++ more) (short : length (bits_in pieces) ≤ most_bits)
      (stand : (before : List Placed) (one : Placed) (others : List Placed) → pieces ≡ before ++ one ∷ others → StandsAfter how known all before one) where
    chain_from : (before others : List Placed) → pieces ≡ before ++ others → Chain how known all others (length (bits_in before)) (marks_in before) (length (bits_in pieces)) (marks_in pieces)
    chain_from before [] same =
        let so = same ∙ append-nil before in (ap (λ (ps : List Placed). length (bits_in ps)) so, ap marks_in so)
    chain_from before (one ∷ others) same = (
      length (bits_in before) + length one.bits,
      marks_in before ++ replicate (length one.bits) one.late,
      link,
      rest (chain_from (before ++ one ∷ []) others (same ∙ sym (append_assoc before (one ∷ []) others))),
    )
      where
        it : StandsAfter how known all before one
        it = stand before one others same

        apart : bits_in pieces ≡ bits_in before ++ (one.bits ++ bits_in others)
        apart = ap bits_in same ∙ bits_both before (one ∷ others)

        behind : drop (length (bits_in before)) all ≡ one.bits ++ (bits_in others ++ more)
        behind =
            ap (drop (length (bits_in before)))
            (are ∙ ap (λ (bits : List Bool). bits ++ more) apart
            ∙ append_assoc (bits_in before) (one.bits ++ bits_in others) more ∙ ap (λ (bits : List Bool). bits_in before ++ bits) (append_assoc one.bits (bits_in others) more))
            ∙ drop_at (bits_in before) (one.bits ++ (bits_in others ++ more)) (length (bits_in before)) refl

        fits : length (bits_in before) + length one.bits ≤ most_bits
        fits =
            let a = ap length apart in
            let b = length-append (bits_in before) (one.bits ++ bits_in others) in
            let c = length-append one.bits (bits_in others) in
            omega (arith, a, b, c, short)

        link : Links how known all one (length (bits_in before)) (marks_in before) (length (bits_in before) + length one.bits) (marks_in before ++ replicate (length one.bits) one.late)
        link = record {
          begins = it.at;
          is = subst (λ (k : ℕ). IsThere how known all one k (marks_in before)) it.at (it.stored, it.manner, it.late, it.early);
          there = ap (take (length one.bits)) behind ∙ take_at one.bits (bits_in others ++ more) (length one.bits) refl;
          ends = refl;
          short = fits;
          marked = refl;
        }

        far : length (bits_in (before ++ one ∷ [])) ≡ length (bits_in before) + length one.bits
        far = ap length (bits_both before (one ∷ [])) ∙ length-append (bits_in before) (one.bits ++ []) ∙ ap (λ (bits : List Bool). length (bits_in before) + length bits) (append-nil one.bits)

        marks : marks_in (before ++ one ∷ []) ≡ marks_in before ++ replicate (length one.bits) one.late
        marks = marks_both before (one ∷ []) ∙ ap (λ (m : Late). marks_in before ++ m) (append-nil (replicate (length one.bits) one.late))

        rest : Chain how known all others (length (bits_in (before ++ one ∷ []))) (marks_in (before ++ one ∷ [])) (length (bits_in pieces)) (marks_in pieces)
            → Chain how known all others (length (bits_in before) + length one.bits) (marks_in before ++ replicate (length one.bits) one.late) (length (bits_in pieces)) (marks_in pieces)
        rest chain =
            subst (λ (m : Late). Chain how known all others (length (bits_in before) + length one.bits) m (length (bits_in pieces)) (marks_in pieces)) marks
            (subst (λ (k : ℕ). Chain how known all others k (marks_in (before ++ one ∷ [])) (length (bits_in pieces)) (marks_in pieces)) far chain)

    pub chain_all : Chain how known all pieces 0 [] (length (bits_in pieces)) (marks_in pieces)
    chain_all = chain_from [] pieces refl

module _ (how : Manner) (known : Facts) (body : PlainBody) (row : List Tree) (bytes : List ℕ) where
  abbrev all : List Bool
  all = bits_of bytes

  abbrev Spelled : Environment → RowSpells
  Spelled own = BodySpells how known all body own (at_front body nothing_passed) row

  abbrev Are : Environment → ArePieces
  Are own = BodyPlaced body own (at_front body nothing_passed) row

  to : Spelling how known body row bytes → IsPlaced how known body row bytes
  to it =
      let found = inside_lists how known all body None outside Spelled Are (λ own. body_lists how known all body own (at_front body nothing_passed) row)
      0 [] it.end it.late (it.names, it.own, it.fields) in
      let ends = chain_ends how known all found.0 0 [] it.end it.late found.2 in
      let far = ends.0 in
      let end : length (bits_in found.0) ≡ it.end = omega (arith, far) in
      let front : take it.end all ≡ bits_in found.0 = ap (λ (n : ℕ). take n all) (sym end) ∙ chain_there how known all found.0 0 [] it.end it.late found.2 in
      record {
        pieces = found.0;
        of_row = found.1;
        stand = stands_after how known all found.0 it.end it.late found.2;
        all = it.filled ∙ ap (filled 8) front;
        short = subst (λ (n : ℕ). n ≤ most_bits) (sym end) (chain_short how known all found.0 0 [] it.end it.late (omega arith) found.2);
        are_bytes = it.are_bytes;
      }

  from : IsPlaced how known body row bytes → Spelling how known body row bytes
  from it =
      let more = zeros (missing 8 (length (bits_in it.pieces))) in
      let chain = chain_all how known all it.pieces more it.all it.short it.stand in
      let inside = inside_threads how known all body None outside Spelled Are (λ own. body_threads how known all body own (at_front body nothing_passed) row)
      it.pieces 0 [] (length (bits_in it.pieces)) (marks_in it.pieces) it.of_row chain in
      let size = ap length it.all in
      let long = length-append (bits_in it.pieces) more in
      record {
        names = inside.0;
        own = inside.1;
        end = length (bits_in it.pieces);
        late = marks_in it.pieces;
        fields = inside.2;
        filled = it.all ∙ ap (filled 8) (sym (ap (take (length (bits_in it.pieces))) it.all ∙ take_at (bits_in it.pieces) more (length (bits_in it.pieces)) refl));
        within = omega (arith, size, long);
        are_bytes = it.are_bytes;
      }

  pub placed_so : Spelling how known body row bytes ↔ IsPlaced how known body row bytes
  placed_so = (to, from)

module _ (known : Facts) (body : PlainBody) (row : List Tree) (bytes : List ℕ) where
  pub plainly_so : SpellsPlainly known body row bytes ↔ (IsPlaced plainly known body row bytes × (values_in row ≤ 1048576))
  plainly_so = (
    λ it. ((placed_so plainly known body row bytes).0 it.spelling, it.few),
    λ it. record { spelling = (placed_so plainly known body row bytes).1 it.0; few = it.1 },
  )
