-- How far a source is turned, and that it has one text or one fault.
use Rattle.std.proofs.Common.{◌≡◌, ℕ, zero, suc, ◌+◌, ◌<◌, ◌≤◌, Bool, true, false, ◌&&◌, inl, inr, ⊎_elim, List, [], ◌∷◌, ◌++◌, length, take, drop, Option, Some, None, refl, sym, ap, subst, ◌∙◌, arith, append-nil, length-append, take_at, take-append-drop, eq-or-lt_of_le}
use Rattle.std.specs.Prelude.{◌≢◌, if◌then◌else◌, map, IfOk, Ok, Err}
use Rattle.std.specs.declared.result.Result.{Result}
use Rattle.std.specs.Char.{encode_utf8, IsScalar}
use Rattle.std.specs.Prelude.{IsUtf8}
use Rattle.std.specs.Str.{all_scalars, bytes_eq, encode_utf8_all, is_utf8, StartsWithNoChar}
use Rattle.std.proofs.lemmas.Slice.Eq.{bytes_eq-Decides}
use Rattle.std.specs.Str.Lossy.{utf8_valid_len, valid_len_up_to}
use Rattle.std.proofs.lemmas.List.{append_assoc}
use Rattle.std.proofs.lemmas.Str.{cons_from_encodes, encode_same, encodes-append, is_utf8-from_IsUtf8, IsUtf8-append, IsUtf8-encode, IsUtf8-past_char, len_utf8_bounds, length-encode}
use Rattle.rz_lex.proofs.Decimals.{length-zero}
use Rattle.rz_core.specs.Roman.{roman_byte}
use Rattle.rz_core.specs.Stop.{Gives, OnFault}
use Rattle.rz_core.proofs.Stops.{fault_so, gives_fault, gives_value}
use Rattle.rz_core.proofs.Tests.{both}
use Rattle.rz_core.specs.declared.stop.Stop.{Stop}
use Rattle.rz_pre_source.specs.declared.source.BadText.{BadText}
use Rattle.rz_pre_source.specs.Source.{mark, IsBadAt, IsTextOf, IsUnmarked, LacksByteAt, Reaches, Spells, StopsAt, marked, unmarked}

-- The loop over the characters.

-- the character at the front of a text is one
pub front_scalar : (text rest : List ℕ) (character : ℕ) → IsUtf8 text → text ≡ encode_utf8 character ++ rest → IsScalar character
front_scalar text rest character u e =
    let k = cons_from_encodes u.0 rest character (u.1.1 ∙ e) in
    (both _ _ (subst (λ (cs : List ℕ). all_scalars cs ≡ true) k.1 u.1.0)).0

scalars_more : (cs : List ℕ) (c : ℕ) → all_scalars cs ≡ true → IsScalar c → all_scalars (cs ++ c ∷ []) ≡ true
scalars_more [] c all one = ap (λ (b : Bool). b && true) one
scalars_more (d ∷ cs) c all one =
    let two = both _ _ all in
    ap (λ (b : Bool). b && all_scalars (cs ++ c ∷ [])) two.0 ∙ scalars_more cs c two.1 one

each_more : (cs bytes : List ℕ) (c byte : ℕ) → map roman_byte cs ≡ map Some bytes → roman_byte c ≡ Some byte
    → map roman_byte (cs ++ c ∷ []) ≡ map Some (bytes ++ byte ∷ [])
each_more [] [] c byte all one = ap (λ (o : Option ℕ). o ∷ []) one
each_more [] (b ∷ bytes) c byte all one = absurd (cc all)
each_more (d ∷ cs) [] c byte all one = absurd (cc all)
each_more (d ∷ cs) (b ∷ bytes) c byte all one =
    let first : roman_byte d ≡ Some b = cc all in
    let later : map roman_byte cs ≡ map Some bytes = cc all in
    (λ i. first i ∷ each_more cs bytes c byte later one i)

pub spells_more : (front bytes : List ℕ) (c byte : ℕ) → Spells front bytes → IsScalar c → roman_byte c ≡ Some byte → Spells (front ++ encode_utf8 c) (bytes ++ byte ∷ [])
spells_more front bytes c byte s one has = record {
  characters = s.characters ++ c ∷ [];
  scalars = scalars_more s.characters c s.scalars one;
  encoded = ap (λ (l : List ℕ). l ++ encode_utf8 c) s.encoded ∙ ap (λ (l : List ℕ). encode_utf8_all s.characters ++ l) (sym (append-nil (encode_utf8 c))) ∙ sym (encodes-append s.characters (c ∷ []));
  each = each_more s.characters bytes c byte s.each has;
}

-- all before `offset` is turned into `bytes`, and `rest` is text
pub record Turned (text : List ℕ) (offset : ℕ) (bytes rest : List ℕ) : Type 0 where
  pub reaches : Reaches text offset bytes rest
  pub utf8 : IsUtf8 rest

pub spells_none : Spells [] []
spells_none = record { characters = []; scalars = refl; encoded = refl; each = refl }

pub turned_none : (text bytes rest : List ℕ) (offset : ℕ) → IsUtf8 text → rest ≡ text → offset ≡ 0 → bytes ≡ [] → Turned text (3 + offset) bytes rest
turned_none text bytes rest offset u same at none = record {
  reaches = record { front = []; split = sym same; place = ap (λ n. 3 + n) at; good = subst (λ (l : List ℕ). Spells [] l) (sym none) spells_none };
  utf8 = subst IsUtf8 (sym same) u;
}

pub turned_more : (text bytes rest later : List ℕ) (offset further c byte : ℕ) → Turned text offset bytes rest → rest ≡ encode_utf8 c ++ later
    → further ≡ offset + length (encode_utf8 c) → roman_byte c ≡ Some byte → Turned text further (bytes ++ byte ∷ []) later
turned_more text bytes rest later offset further c byte t begins moved has = record {
  reaches = record {
    front = t.reaches.front ++ encode_utf8 c;
    split = t.reaches.split ∙ ap (λ (l : List ℕ). t.reaches.front ++ l) begins ∙ sym (append_assoc t.reaches.front (encode_utf8 c) later);
    place = omega (arith, moved, t.reaches.place, length-append t.reaches.front (encode_utf8 c));
    good = spells_more t.reaches.front bytes c byte t.reaches.good (front_scalar rest later c t.utf8 begins) has;
  };
  utf8 = IsUtf8-past_char rest later c t.utf8 begins;
}

pub turned_lacks : (text bytes rest later : List ℕ) (offset given c : ℕ) → Turned text offset bytes rest → rest ≡ encode_utf8 c ++ later
    → given ≡ offset → roman_byte c ≡ None → LacksByteAt text given
turned_lacks text bytes rest later offset given c t begins same lacks = record {
  bytes = bytes;
  character = c;
  rest = later;
  scalar = front_scalar rest later c t.utf8 begins;
  lacks = lacks;
  front = record {
    front = t.reaches.front;
    split = t.reaches.split ∙ ap (λ (l : List ℕ). t.reaches.front ++ l) begins;
    place = same ∙ t.reaches.place;
    good = t.reaches.good;
  };
}

pub turned_all : (text bytes rest : List ℕ) (offset : ℕ) → Turned text offset bytes rest → length rest ≡ 0 → Spells text bytes
turned_all text bytes rest offset t done =
    subst (λ (l : List ℕ). Spells l bytes) (sym (t.reaches.split ∙ ap (λ (l : List ℕ). t.reaches.front ++ l) (length-zero rest done) ∙ append-nil t.reaches.front)) t.reaches.good

-- One text or one fault.

-- no character that has a byte begins these
abbrev NoneBegins : List ℕ → Type 0
NoneBegins rest = (character byte : ℕ) (later : List ℕ) → IsScalar character → roman_byte character ≡ Some byte → rest ≡ encode_utf8 character ++ later → ⊥

record First (gs ys : List ℕ) (g : ℕ) : Type 0 where
  pub byte : ℕ
  pub bytes : List ℕ
  pub has : roman_byte g ≡ Some byte
  pub each : map roman_byte gs ≡ map Some bytes
  pub is : ys ≡ byte ∷ bytes

first_of : (gs ys : List ℕ) (g : ℕ) → map roman_byte (g ∷ gs) ≡ map Some ys → First gs ys g
first_of gs [] g e = absurd (cc e)
first_of gs (y ∷ ys) g e = record { byte = y; bytes = ys; has = cc e; each = cc e; is = refl }

one_front : (fs gs xs ys b d : List ℕ) → all_scalars fs ≡ true → all_scalars gs ≡ true → map roman_byte fs ≡ map Some xs → map roman_byte gs ≡ map Some ys
    → NoneBegins b → NoneBegins d → encode_utf8_all fs ++ b ≡ encode_utf8_all gs ++ d → (fs ≡ gs) × (b ≡ d)
one_front [] [] xs ys b d sf sg ef eg nb nd e = (refl, e)
one_front [] (g ∷ gs) xs ys b d sf sg ef eg nb nd e =
    let f = first_of gs ys g eg in
    absurd (nb g f.byte (encode_utf8_all gs ++ d) (both _ _ sg).0 f.has (e ∙ append_assoc (encode_utf8 g) (encode_utf8_all gs) d))
one_front (g ∷ gs) [] xs ys b d sf sg ef eg nb nd e =
    let f = first_of gs xs g ef in
    absurd (nd g f.byte (encode_utf8_all gs ++ b) (both _ _ sf).0 f.has (sym e ∙ append_assoc (encode_utf8 g) (encode_utf8_all gs) b))
one_front (c ∷ fs) (g ∷ gs) xs ys b d sf sg ef eg nb nd e =
    let x = first_of fs xs c ef in
    let y = first_of gs ys g eg in
    let same = encode_same c g (encode_utf8_all fs ++ b) (encode_utf8_all gs ++ d)
    (sym (append_assoc (encode_utf8 c) (encode_utf8_all fs) b) ∙ e ∙ append_assoc (encode_utf8 g) (encode_utf8_all gs) d) in
    let more = one_front fs gs x.bytes y.bytes b d (both _ _ sf).1 (both _ _ sg).1 x.each y.each nb nd same.1 in
    ((λ i. same.0 i ∷ more.0 i), more.1)

same_bytes : (xs ys : List ℕ) → map Some xs ≡ map Some ys → xs ≡ ys
same_bytes [] [] e = refl
same_bytes [] (y ∷ ys) e = absurd (cc e)
same_bytes (x ∷ xs) [] e = absurd (cc e)
same_bytes (x ∷ xs) (y ∷ ys) e =
    let first : x ≡ y = cc e in
    let later : map Some xs ≡ map Some ys = cc e in
    (λ i. first i ∷ same_bytes xs ys later i)

-- a front with characters that have bytes, and what stands after it
same_front : (utf8 front other xs ys b d : List ℕ) → Spells front xs → Spells other ys → NoneBegins b → NoneBegins d
    → utf8 ≡ front ++ b → utf8 ≡ other ++ d → (front ≡ other) × (xs ≡ ys) × (b ≡ d)
same_front utf8 front other xs ys b d s t nb nd e k =
    let same = one_front s.characters t.characters xs ys b d s.scalars t.scalars s.each t.each nb nd
    (ap (λ (l : List ℕ). l ++ b) (sym s.encoded) ∙ sym e ∙ k ∙ ap (λ (l : List ℕ). l ++ d) t.encoded) in
    (s.encoded ∙ ap encode_utf8_all same.0 ∙ sym t.encoded, same_bytes xs ys (sym s.each ∙ ap (map roman_byte) same.0 ∙ t.each), same.1)

no_end : (c : ℕ) (later : List ℕ) → [] ≡ encode_utf8 c ++ later → ⊥
no_end c later e = absurd (omega (arith, ap length e, length-append (encode_utf8 c) later, length-encode c, (len_utf8_bounds c).0))

end_begins_none : NoneBegins []
end_begins_none c byte later one has e = no_end c later e

lacks_has : (c d byte : ℕ) → roman_byte c ≡ None → c ≡ d → roman_byte d ≡ Some byte → ⊥
lacks_has c d byte lacks same has = cc (sym lacks ∙ ap roman_byte same ∙ has)

-- at a fault none begins
record Stopped (utf8 : List ℕ) (offset : ℕ) : Type 0 where
  pub bytes : List ℕ
  pub rest : List ℕ
  pub some : rest ≢ []
  pub none : NoneBegins rest
  pub front : Reaches utf8 offset bytes rest

stopped : (utf8 : List ℕ) (offset : ℕ) → StopsAt utf8 offset → Stopped utf8 offset
stopped utf8 offset (inl l) = record {
  bytes = l.bytes;
  rest = encode_utf8 l.character ++ l.rest;
  some = λ e. no_end l.character l.rest (sym e);
  none = λ c byte later one has e. lacks_has l.character c byte l.lacks (encode_same l.character c l.rest later e).0 has;
  front = l.front;
}
stopped utf8 offset (inr n) = record { bytes = n.bytes; rest = n.rest; some = n.some; none = λ c byte later one has e. n.none c later one e; front = n.front }

-- The longest front that is UTF-8.

longer : (bs : List ℕ) (m n : ℕ) (b : Bool) → is_utf8 (take m bs) ≡ true → is_utf8 (take (suc n) bs) ≡ b → m ≤ suc n
    → (m ≤ n → m ≤ valid_len_up_to bs n) → m ≤ (if b then suc n else valid_len_up_to bs n)
longer bs m n true h e l shorter = l
longer bs m n false h e l shorter =
    ⊎_elim (λ same. absurd (true_false (sym h ∙ ap (λ k. is_utf8 (take k bs)) same ∙ e))) (λ below. shorter (omega (arith, below))) (eq-or-lt_of_le l)
  where
    true_false : true ≡ false → ⊥
    true_false k = cc k

longest : (bs : List ℕ) (m n : ℕ) → is_utf8 (take m bs) ≡ true → m ≤ n → m ≤ valid_len_up_to bs n
longest bs m zero h l = l
longest bs m (suc n) h l = longer bs m n (is_utf8 (take (suc n) bs)) h refl l (λ k. longest bs m n h k)

front_fits : (bs : List ℕ) (m : ℕ) → IsUtf8 (take m bs) → m ≤ length bs → m ≤ utf8_valid_len bs
unfolding utf8_valid_len
front_fits bs m u l = longest bs m (length bs) (is_utf8-from_IsUtf8 (take m bs) u) l

no_character : (text valid rest : List ℕ) → text ≡ valid ++ rest → IsUtf8 valid → length valid ≡ utf8_valid_len text → StartsWithNoChar rest
no_character text valid rest split u most c later one e =
    let whole : text ≡ (valid ++ encode_utf8 c) ++ later = split ∙ ap (λ (l : List ℕ). valid ++ l) e ∙ sym (append_assoc valid (encode_utf8 c) later) in
    let size = length-append valid (encode_utf8 c) in
    let front : take (length valid + length (encode_utf8 c)) text ≡ valid ++ encode_utf8 c =
    ap (take (length valid + length (encode_utf8 c))) whole ∙ take_at (valid ++ encode_utf8 c) later (length valid + length (encode_utf8 c)) size in
    let fits = front_fits text (length valid + length (encode_utf8 c)) (subst IsUtf8 (sym front) (IsUtf8-append valid (encode_utf8 c) u (IsUtf8-encode c one)))
    (omega (arith, ap length whole, length-append (valid ++ encode_utf8 c) later, size)) in
    absurd (omega (arith, fits, most, length-encode c, (len_utf8_bounds c).0))

no_text : (invalid rest : List ℕ) → 0 < length invalid → invalid ++ rest ≢ []
no_text invalid rest some e = absurd (omega (arith, some, ap length e, length-append invalid rest))

pub turned_stops : (text valid invalid rest bytes : List ℕ) (offset : ℕ) → text ≡ valid ++ (invalid ++ rest) → IsUtf8 valid → length valid ≡ utf8_valid_len text
    → 0 < length invalid → Spells valid bytes → offset ≡ 3 + length valid → StopsAt text offset
turned_stops text valid invalid rest bytes offset split u most some good at = inr (record {
  bytes = bytes;
  rest = invalid ++ rest;
  some = no_text invalid rest some;
  none = no_character text valid (invalid ++ rest) split u most;
  front = record { front = valid; split = split; place = at; good = good };
})

-- A source.

one_text : (source utf8 other : List ℕ) → source ≡ mark ++ utf8 → source ≡ mark ++ other → utf8 ≡ other
one_text source utf8 other e k = ap (drop 3) (sym e ∙ k)

pub one_text_of : (source : List ℕ) (text other : List ℕ) → IsTextOf source text → IsTextOf source other → text ≡ other
one_text_of source text other (unmarked unlike is) (unmarked unlike_too is_too) = is ∙ sym is_too
one_text_of source text other (unmarked unlike is) (marked utf8 e s) = absurd (unlike utf8 e)
one_text_of source text other (marked utf8 e s) (unmarked unlike is) = absurd (unlike utf8 e)
one_text_of source text other (marked utf8 e s) (marked utf8_too k t) =
    (same_front utf8 utf8 utf8_too text other [] [] s t end_begins_none end_begins_none (sym (append-nil utf8)) (one_text source utf8 utf8_too e k ∙ sym (append-nil utf8_too))).1

pub text_or_fault : (source text : List ℕ) (fault : BadText) → IsTextOf source text → IsBadAt source fault.offset → ⊥
text_or_fault source text fault (unmarked unlike is) bad = unlike bad.utf8 bad.marked
text_or_fault source text fault (marked utf8 e s) bad =
    let stop = stopped bad.utf8 fault.offset bad.stops in
    let same = same_front utf8 utf8 stop.front.front text stop.bytes [] stop.rest s stop.front.good end_begins_none stop.none (sym (append-nil utf8))
    (one_text source utf8 bad.utf8 e bad.marked ∙ stop.front.split) in
    stop.some (sym same.2)

pub one_fault : (source : List ℕ) (fault other : BadText) → IsBadAt source fault.offset → IsBadAt source other.offset → fault ≡ other
one_fault source fault other bad bad_too =
    let stop = stopped bad.utf8 fault.offset bad.stops in
    let stop_too = stopped bad_too.utf8 other.offset bad_too.stops in
    let same = same_front bad.utf8 stop.front.front stop_too.front.front stop.bytes stop_too.bytes stop.rest stop_too.rest stop.front.good stop_too.front.good stop.none stop_too.none
    stop.front.split (one_text source bad.utf8 bad_too.utf8 bad.marked bad_too.marked ∙ stop_too.front.split) in
    let place : fault.offset ≡ other.offset = stop.front.place ∙ ap (λ (l : List ℕ). 3 + length l) same.0 ∙ sym stop_too.front.place in
    (λ i. record { offset = place i })

module _ (source : List ℕ) (result : Result (List ℕ) (Stop BadText)) where
  pub each_text : IfOk result (IsTextOf source) → OnFault result (λ fault. IsBadAt source fault.offset) → (text : List ℕ) → IsTextOf source text → Gives (Ok text) result
  each_text = gives_value (IsTextOf source) (λ (fault : BadText). IsBadAt source fault.offset) (text_or_fault source) (one_text_of source) result

  pub each_fault : IfOk result (IsTextOf source) → OnFault result (λ fault. IsBadAt source fault.offset) → (fault : BadText) → IsBadAt source fault.offset → Gives (Err fault) result
  each_fault = gives_fault (IsTextOf source) (λ (fault : BadText). IsBadAt source fault.offset) (text_or_fault source) (one_fault source) result

pub marked_text : (source utf8 : List ℕ) (result : Result (List ℕ) (Stop BadText)) → source ≡ mark ++ utf8 → IfOk result (Spells utf8) → IfOk result (IsTextOf source)
marked_text source utf8 (Ok text) e s = marked utf8 e s
marked_text source utf8 (Err stop) e s = tt

pub marked_fault : (source utf8 : List ℕ) (result : Result (List ℕ) (Stop BadText)) → source ≡ mark ++ utf8 → OnFault result (λ fault. StopsAt utf8 fault.offset) → OnFault result (λ fault. IsBadAt source fault.offset)
marked_fault source utf8 result e = fault_so (λ (fault : BadText). StopsAt utf8 fault.offset) (λ (fault : BadText). IsBadAt source fault.offset) (λ fault stops. record { utf8 = utf8; marked = e; stops = stops }) result

pub has_mark : (source : List ℕ) → bytes_eq (take 3 source) mark ≡ true → source ≡ mark ++ drop 3 source
has_mark source same = sym (take-append-drop 3 source) ∙ ap (λ (l : List ℕ). l ++ drop 3 source) ((bytes_eq-Decides (take 3 source) mark).0 same)

pub has_none : (source : List ℕ) → bytes_eq (take 3 source) mark ≡ false → IsUnmarked source
has_none source differs utf8 e = true_is_not (sym ((bytes_eq-Decides (take 3 source) mark).1 (ap (take 3) e)) ∙ differs)
  where
    true_is_not : true ≡ false → ⊥
    true_is_not k = cc k
