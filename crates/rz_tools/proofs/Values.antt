-- The values of a statement that is shown are those of its resource.
use Rattle.std.proofs.Common.{◌≡◌, ℕ, ◌<◌, ◌≤◌, ℤ, pos, negsuc, Bool, true, false, List, [], ◌∷◌, map, length, Ok, Err, refl, ap, ◌∙◌, arith}
use Rattle.std.specs.Prelude.{◌==◌, FitsSigned}
use Rattle.std.specs.Int.{w16, w32}
use Rattle.std.specs.List.{flat_map}
use Rattle.std.proofs.lemmas.Bool.{agree_below_at, eqb-true, le-leb, le-ltb}
use Rattle.std.proofs.lemmas.Int.{int_wrap_fits}
use Rattle.std.specs.declared.result.Result.{Result}
use Rattle.rz_core.specs.Stop.{◌>>=◌}
use Rattle.rz_core.specs.declared.facts.Facts.{Facts}
use Rattle.rz_core.specs.declared.fault.Fault.{Fault}
use Rattle.rz_core.specs.declared.fault.Mark.{Mark}
use Rattle.rz_core.specs.declared.resource.Resource.{Resource}
use Rattle.rz_show_laws.proofs.Texts.{pieces_read as texts_read}
use Rattle.rz_show_laws.specs.Showable.{IsStored}
use Rattle.rz_show_laws.specs.Statement.{attributes_of, id_term, name_part, shown_head, shown_raw, text_parts}
use Rattle.rz_types_fields.specs.Text.{bytes_of, PlainPart}
use Rattle.rz_types_fields.specs.Value.{number_of}
use Rattle.rz_folder.specs.Folder.{Files}
use Rattle.rz_tools.proofs.Fileless.{pieces_read}
use Rattle.rz_tools_values.specs.Around.{Around}
use Rattle.rz_tools_values.specs.Contents.{contents_of, most_bytes, short_bytes, with_bytes}
use Rattle.rz_tools_resource.specs.Raw.{contents_read, resource_of}
use Rattle.rz_tools_values.specs.Head.{bits_behind_all, facts_of, head_facts, id_of, name_of, short_name}
use Rattle.rz_tools_values.specs.declared.setting.Setting.{Setting}

module _ (mark : Mark) where
  id_value : (known : Facts) (id : ℤ) → FitsSigned w16 id → number_of mark known (id_term id) ≡ Ok id
  id_value known (pos n) fits = refl
  id_value known (negsuc n) fits = ap (λ (z : ℤ). Ok z) (int_wrap_fits w32 (negsuc n) (omega (arith, fits)))

  id_inside : (id : ℤ) → FitsSigned w16 id → id_of mark id ≡ Ok id
  id_inside (pos n) fits = rw (le-leb n 32767 (omega (arith, fits))) refl
  id_inside (negsuc n) fits = rw (le-leb n 32767 (omega (arith, fits))) refl

  pieces_again : (known : Facts) (pieces : List (List ℕ)) (whole : List ℕ) → flat_map (λ piece. piece) pieces ≡ whole → bytes_of mark known (text_parts pieces) ≡ Ok whole
  pieces_again known pieces whole is = texts_read mark known pieces ∙ ap (λ (x : List ℕ). Ok x) is

  name_value : (known : Facts) (pieces : List (List ℕ)) (name : List ℕ) → flat_map (λ piece. piece) pieces ≡ name → length name < 256 → name_of mark known (name_part pieces) ≡ Ok name
  name_value known [] name is short = ap (λ (x : List ℕ). Ok x) is
  name_value known (piece ∷ pieces) name is short =
      ap (λ o. o >>= short_name mark) (pieces_again known (piece ∷ pieces) name is) ∙ rw (le-ltb 255 (length name) (omega (arith, short))) refl

  bytes_value : (paths : List (List ℕ)) (files : Files) (known : Facts) (pieces : List (List ℕ)) (bytes : List ℕ) → flat_map (λ piece. piece) pieces ≡ bytes
      → length bytes ≤ most_bytes → contents_read paths files mark known (text_parts pieces) ≡ Ok bytes
  bytes_value paths files known pieces bytes is short =
      ap (λ (r : Result (List PlainPart) Fault). r >>= contents_of mark known) (pieces_read paths files mark known pieces)
      ∙ ap (λ (r : Result (List ℕ) Fault). r >>= short_bytes mark) (pieces_again known pieces bytes is) ∙ rw (le-ltb most_bytes (length bytes) short) refl

  is_byte : Result ℕ Fault → ℕ → Bool
  is_byte (Ok value) byte = value == byte
  is_byte (Err fault) byte = false

  same_byte : (value : Result ℕ Fault) (byte : ℕ) → is_byte value byte ≡ true → value ≡ Ok byte
  unfolding is_byte
  same_byte (Ok value) byte h = ap (λ (x : ℕ). Ok x) (eqb-true value byte h)
  same_byte (Err fault) byte h = absurd cc

  attributes_value : (known : Facts) (attr : ℕ) → attr < 256 → bits_behind_all mark known 0 (map (λ a. a.1) (attributes_of attr)) ≡ Ok attr
  unfolding is_byte
  attributes_value known attr small = same_byte (bits_behind_all mark known 0 (map (λ a. a.1) (attributes_of attr))) attr
      (agree_below_at (λ x. is_byte (bits_behind_all mark known 0 (map (λ a. a.1) (attributes_of x))) x) (λ x. true) 256 attr refl small)

  pub facts_again : (setting : Setting) (r : Resource) (name : List (List ℕ)) → IsStored r → flat_map (λ piece. piece) name ≡ r.name → length r.name < 256
      → facts_of setting mark r.kind.code (shown_head r name) ≡ Ok (record { kind = r.kind; id = r.id; name = r.name; attr = r.attr; moment = setting.moment })
  facts_again setting r name stored name_is named =
      let known : Facts = head_facts setting r.kind.code in
      rw (id_value known r.id stored.id, id_inside r.id stored.id, name_value known name r.name name_is named, attributes_value known r.attr stored.attr) refl

  pub resource_again : (around : Around) (r : Resource) (name bytes : List (List ℕ)) → IsStored r → flat_map (λ piece. piece) name ≡ r.name → flat_map (λ piece. piece) bytes ≡ r.bytes
      → length r.name < 256 → length r.bytes ≤ most_bytes → resource_of around mark (shown_raw r name bytes) ≡ Ok r
  resource_again around r name bytes stored name_is bytes_is named short =
      let known : Facts = record { kind = r.kind; id = r.id; name = r.name; attr = r.attr; moment = around.setting.moment } in
      ap (λ (f : Result Facts Fault). f >>= λ known. contents_read around.paths around.files mark known (text_parts bytes) >>= λ bytes. Ok (with_bytes known bytes))
      (facts_again around.setting r name stored name_is named)
      ∙ ap (λ (c : Result (List ℕ) Fault). c >>= λ bytes. Ok (with_bytes known bytes)) (bytes_value around.paths around.files known bytes r.bytes bytes_is short)
