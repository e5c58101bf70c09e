-- An expansion while it is made.
use Rattle.std.proofs.Common.{◌≡◌, ℕ, ◌+◌, ◌-◌, ◌<◌, Bool, true, false, inl, inr, List, [], ◌∷◌, ◌++◌, map, drop, Option, Some, None, refl, sym, ap, subst, ◌∙◌, arith, true≢false}
use Rattle.std.specs.Prelude.{if◌then◌else◌}
use Rattle.std.specs.Str.{str_to_ascii_lowercase}
use Rattle.std.proofs.lemmas.List.{map-append}
use Rattle.rz_core.specs.declared.fault.Mark.{Mark}
use Rattle.rz_lex.specs.Printed.{token_of}
use Rattle.rz_lex.specs.declared.token.Shape.{Shape}
use Rattle.rz_lex.specs.declared.token.Shape.TheVariants as shapes
use Rattle.rz_lex.specs.declared.token.Token.{Token}
use Rattle.rz_pre.specs.Expand.{bare, limit, Expansion, ExpandsTo, IsTooLong}
use Rattle.rz_pre.specs.Live.{body_at, body_of, hide, live_in, live_row, name_of, shapes_of, token_row, Live, Row}
use Rattle.rz_pre.specs.Steps.{is_inside, is_opened, Frame, Handles, Replaces, Keeps}
use Rattle.rz_pre.proofs.Frames.{all_first_front, all_first_more, hidden_inside, none_stays, one_inside, opened_by, row_is, row_is_not, shown_inside, visible, visible_inside, AllFirst}
use Rattle.rz_pre.proofs.Halfway.{begun, closed, ended, kept, one_left, opened, Halfway, Open}

pub record Making (rows : List Row) (s : Shape) (mark : Mark) (fs : List Frame) (done : List Token) (budget : ℕ) : Type 0 where
  pub spent : ℕ
  pub sum : spent + budget ≡ limit
  pub half : Halfway (live_in rows) s (opened_by rows (live_in rows) fs) (shapes_of done) spent
  pub placed : done ≡ map (token_of mark) (shapes_of done)
  pub first : AllFirst rows fs

-- A token that names a live macro.

named : (rows : List Row) (s : Shape) (k : ℕ) → token_row rows s ≡ Some k → live_row rows (name_of s) ≡ Some k
named rows (shapes.Word word) k is = is
named rows (shapes.Number number) k is = absurd cc
named rows (shapes.Literal bytes) k is = absurd cc
named rows (shapes.Text bytes) k is = absurd cc
named rows (shapes.Sign sign) k is = absurd cc

-- what a set of macros has under its name
looked_up : (rows : List Row) (s : Shape) (k : ℕ) (live : Live) → token_row rows s ≡ Some k → body_of live s ≡ live (name_of s)
looked_up rows (shapes.Word word) k live is = refl
looked_up rows (shapes.Number number) k live is = absurd cc
looked_up rows (shapes.Literal bytes) k live is = absurd cc
looked_up rows (shapes.Text bytes) k live is = absurd cc
looked_up rows (shapes.Sign sign) k live is = absurd cc

nothing_found : (rows : List Row) (s : Shape) (fs : List Frame) → token_row rows s ≡ None → body_of (visible rows (live_in rows) fs) s ≡ None
nothing_found rows (shapes.Word word) fs is = none_stays rows (live_in rows) fs (str_to_ascii_lowercase word.bytes) (row_is_not rows (str_to_ascii_lowercase word.bytes) is)
nothing_found rows (shapes.Number number) fs is = refl
nothing_found rows (shapes.Literal bytes) fs is = refl
nothing_found rows (shapes.Text bytes) fs is = refl
nothing_found rows (shapes.Sign sign) fs is = refl

-- a token that isn't opened is itself
plain_body : (rows : List Row) (s : Shape) (fs : List Frame) (row : Option ℕ) → token_row rows s ≡ row → is_opened row fs ≡ false → body_of (visible rows (live_in rows) fs) s ≡ None
plain_body rows s fs None is plain = nothing_found rows s fs is
plain_body rows s fs (Some k) is plain =
    looked_up rows s k (visible rows (live_in rows) fs) is
    ∙ hidden_inside rows (live_in rows) fs (name_of s) k (row_is rows (name_of s) k (named rows s k is)).0 (inside (is_inside k fs) refl plain)
  where
    inside : (b : Bool) → is_inside k fs ≡ b → is_opened (Some k) fs ≡ false → is_inside k fs ≡ true
    inside true at plain = at
    inside false at plain = let never : true ≡ false = sym (ap (λ b. if b then false else true) at) ∙ plain in absurd (true≢false never)

-- a token that is opened is replaced by its macro
opened_body : (rows : List Row) (s : Shape) (fs : List Frame) (k : ℕ) → token_row rows s ≡ Some k → AllFirst rows fs → is_inside k fs ≡ false → body_of (visible rows (live_in rows) fs) s ≡ Some (body_at rows k)
opened_body rows s fs k is all fresh =
    looked_up rows s k (visible rows (live_in rows) fs) is
    ∙ shown_inside rows (live_in rows) fs (name_of s) k (named rows s k is) all fresh
    ∙ (row_is rows (name_of s) k (named rows s k is)).1

-- The steps.

pub made_begun : (rows : List Row) (s : Shape) (mark : Mark) (k : ℕ) → token_row rows s ≡ Some k → Making rows s mark ((k, 0) ∷ []) [] 65535
made_begun rows s mark k is =
    let found = row_is rows (name_of s) k (named rows s k is) in
    record {
      spent = 1;
      sum = refl;
      half = subst (λ (name : List ℕ). Halfway (live_in rows) s ((hide name (live_in rows), body_at rows k) ∷ []) [] 1) (sym found.0)
          (begun (live_in rows) s (body_at rows k) (looked_up rows s k (live_in rows) is ∙ found.1));
      placed = refl;
      first = (ap (live_row rows) found.0 ∙ named rows s k is, tt);
    }

-- what is open in front of the last frame
open_front : (rows : List Row) (fs : List Frame) (i n : ℕ) → opened_by rows (live_in rows) (fs ++ (i, n) ∷ []) ≡ (visible rows (live_in rows) (fs ++ (i, n) ∷ []), drop n (body_at rows i)) ∷ opened_by rows (live_in rows) fs
open_front rows fs i n =
    one_inside rows (live_in rows) fs (i, n)
    ∙ ap (λ (live : Live). (live, drop n (body_at rows i)) ∷ opened_by rows (live_in rows) fs) (sym (visible_inside rows (live_in rows) fs (i, n)))

-- the position of the next token hides nothing else
same_visible : (rows : List Row) (fs : List Frame) (i n m : ℕ) → visible rows (live_in rows) (fs ++ (i, n) ∷ []) ≡ visible rows (live_in rows) (fs ++ (i, m) ∷ [])
same_visible rows fs i n m = visible_inside rows (live_in rows) fs (i, n) ∙ sym (visible_inside rows (live_in rows) fs (i, m))

pub made_closed : (rows : List Row) (s : Shape) (mark : Mark) (fs : List Frame) (i n : ℕ) (done : List Token) (budget : ℕ) → Making rows s mark (fs ++ (i, n) ∷ []) done budget
    → drop n (body_at rows i) ≡ [] → Making rows s mark fs done budget
made_closed rows s mark fs i n done budget m none = record {
  spent = m.spent;
  sum = m.sum;
  half = closed (live_in rows) s (visible rows (live_in rows) (fs ++ (i, n) ∷ [])) (opened_by rows (live_in rows) fs) (shapes_of done) m.spent
      (subst (λ (os : List Open). Halfway (live_in rows) s os (shapes_of done) m.spent)
      (open_front rows fs i n ∙ ap (λ (ts : List Shape). (visible rows (live_in rows) (fs ++ (i, n) ∷ []), ts) ∷ opened_by rows (live_in rows) fs) none) m.half);
  placed = m.placed;
  first = (all_first_front rows fs (i, n) m.first).0;
}

module _ (rows : List Row) (s : Shape) (mark : Mark) (fs : List Frame) (i n : ℕ) (done : List Token) (budget : ℕ) (token : Token)
    (m : Making rows s mark (fs ++ (i, n) ∷ []) done budget) (next : drop n (body_at rows i) ≡ token.shape ∷ drop (n + 1) (body_at rows i)) where
  ahead : Halfway (live_in rows) s ((visible rows (live_in rows) (fs ++ (i, n + 1) ∷ []), token.shape ∷ drop (n + 1) (body_at rows i)) ∷ opened_by rows (live_in rows) fs) (shapes_of done) m.spent
  ahead = subst (λ (os : List Open). Halfway (live_in rows) s os (shapes_of done) m.spent)
      (open_front rows fs i n
      ∙ ap (λ (ts : List Shape). (visible rows (live_in rows) (fs ++ (i, n) ∷ []), ts) ∷ opened_by rows (live_in rows) fs) next
      ∙ ap (λ (live : Live). (live, token.shape ∷ drop (n + 1) (body_at rows i)) ∷ opened_by rows (live_in rows) fs) (same_visible rows fs i n (n + 1))) m.half

  all_first : AllFirst rows (fs ++ (i, n + 1) ∷ [])
  all_first = let r = all_first_front rows fs (i, n) m.first in all_first_more rows fs (i, n + 1) r.0 r.1

  put_out : (after : List Frame) (new : List Token) → 0 < budget → Keeps rows token mark (fs ++ (i, n + 1) ∷ []) after done new → Making rows s mark after new (budget - 1)
  put_out after new some p = record {
    spent = m.spent + 1;
    sum = omega (arith, m.sum, some);
    half = subst (λ (es : List Frame). Halfway (live_in rows) s (opened_by rows (live_in rows) es) (shapes_of new) (m.spent + 1)) (sym p.same)
        (subst (λ (os : List Open). Halfway (live_in rows) s os (shapes_of new) (m.spent + 1)) (sym (open_front rows fs i (n + 1)))
        (subst (λ (out : List Shape). Halfway (live_in rows) s ((visible rows (live_in rows) (fs ++ (i, n + 1) ∷ []), drop (n + 1) (body_at rows i)) ∷ opened_by rows (live_in rows) fs) out (m.spent + 1)) (sym (shapes_put p.put))
        (kept (live_in rows) s (visible rows (live_in rows) (fs ++ (i, n + 1) ∷ [])) (opened_by rows (live_in rows) fs) (shapes_of done) m.spent token.shape (drop (n + 1) (body_at rows i))
        (plain_body rows token.shape (fs ++ (i, n + 1) ∷ []) (token_row rows token.shape) refl p.plain) ahead)));
    placed = marked p.put;
    first = subst (AllFirst rows) (sym p.same) all_first;
  }
    where
      shapes_put : new ≡ done ++ token_of mark token.shape ∷ [] → shapes_of new ≡ shapes_of done ++ token.shape ∷ []
      shapes_put put = ap shapes_of put ∙ map-append (λ (t : Token). t.shape) done (token_of mark token.shape ∷ [])

      marked : new ≡ done ++ token_of mark token.shape ∷ [] → new ≡ map (token_of mark) (shapes_of new)
      marked put =
          put ∙ ap (λ (ts : List Token). ts ++ token_of mark token.shape ∷ []) m.placed
          ∙ sym (map-append (token_of mark) (shapes_of done) (token.shape ∷ []))
          ∙ ap (map (token_of mark)) (sym (shapes_put put))

  open_next : (after : List Frame) (new : List Token) → 0 < budget → Replaces rows token (fs ++ (i, n + 1) ∷ []) after done new → Making rows s mark after new (budget - 1)
  open_next after new some o =
      let found = row_is rows (name_of token.shape) o.row (named rows token.shape o.row o.found) in
      let inside = visible rows (live_in rows) (fs ++ (i, n + 1) ∷ []) in
      let open_now = opened (live_in rows) s inside (opened_by rows (live_in rows) fs) (shapes_of done) m.spent token.shape (drop (n + 1) (body_at rows i)) (body_at rows o.row)
      (opened_body rows token.shape (fs ++ (i, n + 1) ∷ []) o.row o.found all_first o.fresh) ahead in
      record {
        spent = m.spent + 1;
        sum = omega (arith, m.sum, some);
        half = subst (λ (ts : List Token). Halfway (live_in rows) s (opened_by rows (live_in rows) after) (shapes_of ts) (m.spent + 1)) (sym o.same)
            (subst (λ (es : List Frame). Halfway (live_in rows) s (opened_by rows (live_in rows) es) (shapes_of done) (m.spent + 1)) (sym o.opened)
            (subst (λ (os : List Open). Halfway (live_in rows) s os (shapes_of done) (m.spent + 1)) (sym (one_inside rows (live_in rows) (fs ++ (i, n + 1) ∷ []) (o.row, 0)))
            (subst (λ (name : List ℕ). Halfway (live_in rows) s ((hide name inside, body_at rows o.row) ∷ opened_by rows (live_in rows) (fs ++ (i, n + 1) ∷ [])) (shapes_of done) (m.spent + 1)) (sym found.0)
            (subst (λ (os : List Open). Halfway (live_in rows) s ((hide (name_of token.shape) inside, body_at rows o.row) ∷ os) (shapes_of done) (m.spent + 1)) (sym (open_front rows fs i (n + 1))) open_now))));
        placed = subst (λ (ts : List Token). ts ≡ map (token_of mark) (shapes_of ts)) (sym o.same) m.placed;
        first = subst (AllFirst rows) (sym o.opened) (all_first_more rows (fs ++ (i, n + 1) ∷ []) (o.row, 0) all_first (ap (live_row rows) found.0 ∙ named rows token.shape o.row o.found));
      }

  pub made_more : (after : List Frame) (new : List Token) → 0 < budget → Handles rows token mark (fs ++ (i, n + 1) ∷ []) after done new → Making rows s mark after new (budget - 1)
  made_more after new some (inl p) = put_out after new some p
  made_more after new some (inr o) = open_next after new some o

  pub made_too_long : (word : Token) → word.shape ≡ s → budget ≡ 0 → IsTooLong (live_in rows) word
  made_too_long word same none out work x =
      let here : Expansion (live_in rows) s out work = subst (λ (t : Shape). Expansion (live_in rows) t out work) same x in
      let more = one_left (live_in rows) s (visible rows (live_in rows) (fs ++ (i, n + 1) ∷ [])) (opened_by rows (live_in rows) fs) (shapes_of done) m.spent token.shape (drop (n + 1) (body_at rows i)) ahead out work here in
      omega (arith, more, m.sum, none)

pub made_all : (rows : List Row) (word : Token) (done : List Token) (budget : ℕ) → Making rows word.shape word.mark [] done budget → ExpandsTo (live_in rows) word done
made_all rows word done budget m = record {
  shapes = shapes_of done;
  work = m.spent;
  expansion = ended (live_in rows) word.shape (shapes_of done) m.spent m.half;
  few = omega (arith, m.sum);
  placed = m.placed;
}

-- a word that is no live macro
pub made_plain : (rows : List Row) (word : Token) (done : List Token) → token_row rows word.shape ≡ None → done ≡ token_of word.mark word.shape ∷ [] → ExpandsTo (live_in rows) word done
made_plain rows word done none put = record {
  shapes = word.shape ∷ [];
  work = 1;
  expansion = bare (nothing_found rows word.shape [] none) refl refl;
  few = omega arith;
  placed = put;
}
