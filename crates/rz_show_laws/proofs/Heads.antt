-- The lines that begin a statement are cut into the tokens of its head.
use Rattle.std.proofs.Common.{◌≡◌, ℕ, ◌/◌, ◌%◌, ◌<◌, ◌≤◌, ℤ, pos, negsuc, true, false, List, [], ◌∷◌, ◌++◌, map, length, refl, sym, ap, subst, ◌∙◌, arith, append_assoc}
use Rattle.std.specs.Prelude.{◌==◌, ◌||◌, nat_le, FitsSigned}
use Rattle.std.specs.Int.{w16}
use Rattle.std.specs.List.{flat_map, AllByRecursion}
use Rattle.std.proofs.lemmas.Bool.{eqb-true}
use Rattle.std.proofs.lemmas.Grind.{flat_map-append}
use Rattle.std.proofs.lemmas.List.{append-nil, map-append}
use Rattle.rz_core.proofs.Lists.{all_append}
use Rattle.rz_core.proofs.Tests.{by_test}
use Rattle.rz_core.specs.Numbers.{be, length-be_4}
use Rattle.rz_core.specs.declared.resource.Resource.{Resource}
use Rattle.rz_lex.specs.Printed.{is_word, word_of}
use Rattle.rz_lex.specs.declared.sign.Sign.TheVariants as signs
use Rattle.rz_lex.specs.declared.token.Shape.{Shape}
use Rattle.rz_lex.specs.declared.token.Shape.TheVariants as shapes
use Rattle.rz_stmt_data.specs.Head.{Attribute}
use Rattle.rz_words.specs.Attribute.{bit_of, setting_word}
use Rattle.rz_words.specs.declared.attribute.Attribute as words
use Rattle.rz_words.specs.declared.attribute.Attribute.TheVariants.{Changed, Locked, Preload, Protected, Purgeable, SystemHeap}
use Rattle.rz_show.specs.Head.{head_end, head_lines}
use Rattle.rz_show_lines.specs.Head.{after_comma, attr_written, head_front, word_written}
use Rattle.rz_show_lines.specs.Pieces.{text_pieces}
use Rattle.rz_show_lines.specs.Print.{signed_written}
use Rattle.rz_show_lines.specs.Written.{a_blank, a_sign, a_text, line_shapes, lines_shapes, IsPut, Written}
use Rattle.rz_show_laws.specs.Showable.{IsStored}
use Rattle.rz_show_laws.specs.Statement.{attribute_part, attributes_of}
use Rattle.rz_show_lines.proofs.CutLines.{none_live, pieces_lines, signed_apart, AreLines, IsBehind, IsLine}
use Rattle.rz_show_laws.proofs.Shapes.{attribute_tokens, after_commas, id_shapes, name_pieces, shape_alone, text_shapes}
use Rattle.rz_show_lines.proofs.Texts.{all_pieces, four_bytes, pieces_join, pieces_small}
use Rattle.rz_show_lines.proofs.Tokens.{line_both, piece_tokens}

-- what may stand after a number
abbrev EndsLine : List Written → Type 0
EndsLine line = IsBehind none_live line

-- Attributes.

-- what is written of attributes, in front of more
record IsAttributes (line : List Written) (attributes : List (Shape × Attribute)) : Type 0 where
  on : (behind : List Written) → EndsLine behind → EndsLine (line ++ behind)
  tokens : line_shapes line ≡ attribute_tokens attributes

no_attribute : IsAttributes [] []
no_attribute = record { on = λ behind ends. ends; tokens = refl }

both : {one other : List Written} {front back : List (Shape × Attribute)} → IsAttributes one front → IsAttributes other back → IsAttributes (one ++ other) (front ++ back)
both {one} {other} {front} {back} first second = record {
  on = λ behind ends. subst EndsLine (sym (append_assoc one other behind)) (first.on (other ++ behind) (second.on behind ends));
  tokens = line_both one other ∙ (λ j. first.tokens j ++ second.tokens j)
      ∙ sym (flat_map-append (λ (piece : List Shape). shapes.Sign signs.Comma ∷ piece) (map shape_alone front) (map shape_alone back))
      ∙ ap after_commas (sym (map-append shape_alone front back));
}

word_attribute : (attr : ℕ) (attribute : words.Attribute) → is_word (setting_word attribute) ≡ true → length (setting_word attribute) ≤ 255
    → IsAttributes (word_written attr attribute) (attribute_part attr attribute)
word_attribute attr attribute is short = by_test (IsAttributes (word_written attr attribute) (attribute_part attr attribute)) (attr / bit_of attribute % 2 == 1)
    (λ h. rw h (record {
      on = λ behind ends. record {
        line = record { put = ((refl, tt), ((tt, tt), (((is, short), refl), ends.line.put))); apart = rw (ends.ends, ends.line.apart) refl };
        ends = refl;
      };
      tokens = refl;
    }))
    (λ h. rw h no_attribute)

attributes : (attr : ℕ) → attr < 256 → IsAttributes (attr_written attr) (attributes_of attr)
attributes attr small = by_test (IsAttributes (attr_written attr) (attributes_of attr)) (attr == 0)
    (λ h. rw h no_attribute)
    (λ h. by_test (IsAttributes (attr_written attr) (attributes_of attr)) (nat_le 128 attr || (attr % 2 == 1))
    (λ k. rw (h, k) (record {
      on = λ behind ends. record { line = record { put = ((refl, tt), ((tt, tt), ((small, tt), ends.line.put))); apart = rw (ends.ends, ends.line.apart) refl }; ends = refl };
      tokens = refl;
    }))
    (λ k. rw (h, k) (both (both (both (both (both (word_attribute attr SystemHeap refl (omega arith)) (word_attribute attr Purgeable refl (omega arith)))
    (word_attribute attr Locked refl (omega arith))) (word_attribute attr Protected refl (omega arith)))
    (word_attribute attr Preload refl (omega arith))) (word_attribute attr Changed refl (omega arith)))))

-- The end of a head.

abbrev pub end_shapes : (attr : ℕ) → List Shape
end_shapes attr = attribute_tokens (attributes_of attr) ++ shapes.Sign signs.CloseParen ∷ shapes.Sign signs.OpenBrace ∷ []

end_tokens : (attr : ℕ) → attr < 256 → line_shapes (head_end attr) ≡ end_shapes attr
unfolding head_end
end_tokens attr small =
    line_both (attr_written attr) (a_sign signs.CloseParen ∷ a_blank ∷ a_sign signs.OpenBrace ∷ [])
    ∙ ap (λ (x : List Shape). x ++ shapes.Sign signs.CloseParen ∷ shapes.Sign signs.OpenBrace ∷ []) (attributes attr small).tokens

end_ends : (attr : ℕ) → attr < 256 → EndsLine (head_end attr)
unfolding head_end
end_ends attr small =
    (attributes attr small).on (a_sign signs.CloseParen ∷ a_blank ∷ a_sign signs.OpenBrace ∷ [])
    (record { line = record { put = ((refl, tt), ((tt, tt), ((refl, tt), tt))); apart = refl }; ends = refl })

-- The front of a head.

id_tokens : (id : ℤ) (rest : List Written) → line_shapes (signed_written id ++ rest) ≡ id_shapes id ++ line_shapes rest
id_tokens (pos n) rest = refl
id_tokens (negsuc n) rest = refl

id_put : (id : ℤ) → FitsSigned w16 id → AllByRecursion (IsPut none_live) (signed_written id)
id_put (pos n) fits = ((omega (arith, fits), tt), tt)
id_put (negsuc n) fits = ((refl, tt), ((omega (arith, fits), tt), tt))

abbrev pub front_shapes : (said : List ℕ) → (code : ℕ) → (id : ℤ) → List Shape → List Shape
front_shapes said code id more = word_of said ∷ shapes.Literal (be 4 code) ∷ shapes.Sign signs.OpenParen ∷ (id_shapes id ++ more)

module _ (said : List ℕ) (is : is_word said ≡ true) (short : length said ≤ 255) (code : ℕ) (id : ℤ) (fits : FitsSigned w16 id) where
  front_line : (rest : List Written) → EndsLine rest → IsLine none_live (head_front said code id ++ rest)
  unfolding head_front
  front_line rest ends = record {
    put = (
      ((is, short), refl),
      (
        (tt, tt),
        (
          ((four_bytes code, omega (arith, length-be_4 code), omega (arith, length-be_4 code)), tt),
          (
            (tt, tt),
            (
              (refl, tt),
              all_append (IsPut none_live) (signed_written id) rest (id_put id fits) ends.line.put,
            ),
          ),
        ),
      ),
    );
    apart = signed_apart none_live id rest ends.ends ends.line.apart;
  }

  front_tokens : (rest : List Written) → line_shapes (head_front said code id ++ rest) ≡ front_shapes said code id (line_shapes rest)
  unfolding head_front
  front_tokens rest = ap (λ (x : List Shape). word_of said ∷ shapes.Literal (be 4 code) ∷ shapes.Sign signs.OpenParen ∷ x) (id_tokens id rest)

-- The whole head.

-- lines that are cut into the tokens of a head, with the name as a text of these pieces
pub record IsHead (lines : List (List Written)) (said : List ℕ) (code : ℕ) (id : ℤ) (name : List ℕ) (attr : ℕ) : Type 0 where
  pub pieces : List (List ℕ)
  pub are : flat_map (λ piece. piece) pieces ≡ name
  pub lines_are : AreLines none_live lines
  pub tokens : lines_shapes lines ≡ front_shapes said code id (after_commas (name_pieces pieces) ++ end_shapes attr)

no_bytes : (name : List ℕ) → (length name == 0) ≡ true → [] ≡ name
no_bytes [] is = refl
no_bytes (b ∷ name) is = absurd (omega (arith, eqb-true (length (b ∷ name)) 0 is))

regroup : (id texts end : List Shape) (comma : Shape) → (id ++ comma ∷ []) ++ (texts ++ end) ≡ id ++ ((comma ∷ (texts ++ [])) ++ end)
regroup id texts end comma = simp (append_assoc, append-nil)

module _ (said : List ℕ) (is : is_word said ≡ true) (short : length said ≤ 255) (r : Resource) (stored : IsStored r) where
  abbrev Head : List (List Written) → Type 0
  Head lines = IsHead lines said r.kind.code r.id r.name r.attr

  line : (rest : List Written) → EndsLine rest → IsLine none_live (head_front said r.kind.code r.id ++ rest)
  line = front_line said is short r.kind.code r.id stored.id

  tokens_of : (rest : List Written) (tokens : List Shape) → line_shapes rest ≡ tokens → line_shapes (head_front said r.kind.code r.id ++ rest) ≡ front_shapes said r.kind.code r.id tokens
  tokens_of rest tokens are = front_tokens said is short r.kind.code r.id stored.id rest ∙ ap (front_shapes said r.kind.code r.id) are

  pub head_is : Head (head_lines said r.kind.code r.id r.name r.attr)
  unfolding head_lines
  head_is =
      let ends = end_ends r.attr stored.attr in
      let end_is = end_tokens r.attr stored.attr in
      let cut = text_pieces false r.name in
      let lines : List (List Written) = head_lines said r.kind.code r.id r.name r.attr in
      by_test (Head lines) (length r.name == 0)
      (λ h. rw h (record {
        pieces = [];
        are = no_bytes r.name h;
        lines_are = (line (head_end r.attr) ends, tt);
        tokens = append-nil _ ∙ tokens_of (head_end r.attr) (end_shapes r.attr) end_is;
      }))
      (λ h. by_test (Head lines) (nat_le (length r.name) 64)
      (λ k. rw (h, k) (record {
        pieces = r.name ∷ [];
        are = append-nil r.name;
        lines_are = (
          line (after_comma (a_text r.name ∷ head_end r.attr))
              (record { line = record { put = ((refl, tt), ((tt, tt), ((stored.name, tt), ends.line.put))); apart = ends.line.apart }; ends = refl }),
          tt,
        );
        tokens = append-nil _
            ∙ tokens_of (after_comma (a_text r.name ∷ head_end r.attr)) _ (ap (λ (x : List Shape). shapes.Sign signs.Comma ∷ shapes.Text r.name ∷ x) end_is);
      }))
      (λ k. rw (h, k) (record {
        pieces = all_pieces cut;
        are = pieces_join 64 64 r.name;
        lines_are = (
          line (a_sign signs.Comma ∷ []) (record { line = record { put = ((refl, tt), tt); apart = refl }; ends = refl }),
          pieces_lines none_live 1 (head_end r.attr) false cut.first cut.others (pieces_small 64 64 r.name stored.name) ends,
        );
        tokens = (λ j. tokens_of (a_sign signs.Comma ∷ []) _ refl j ++ piece_tokens 1 (head_end r.attr) false cut.first cut.others j)
            ∙ ap (λ (x : List Shape). word_of said ∷ shapes.Literal (be 4 r.kind.code) ∷ shapes.Sign signs.OpenParen ∷ x)
            (regroup (id_shapes r.id) (text_shapes (all_pieces cut)) (line_shapes (head_end r.attr)) (shapes.Sign signs.Comma)
            ∙ ap (λ (x : List Shape). id_shapes r.id ++ (after_commas (name_pieces (all_pieces cut)) ++ x)) end_is);
      })))
