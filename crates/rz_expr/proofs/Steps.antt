-- What each step of the reader answers.
use Rattle.std.proofs.Common.{◌≡◌, ℕ, pos, zero, suc, ◌+◌, ◌-◌, ◌<◌, ◌≤◌, Bool, true, false, List, [], ◌∷◌, ◌++◌, length, take, drop, get_or, Option, Some, None, refl, sym, ap, subst, ◌∙◌, arith, append_assoc, length-append, inl, inr}
use Rattle.std.specs.Prelude.{if◌then◌else◌}
use Rattle.std.specs.Option.{is_some}
use Rattle.std.proofs.lemmas.Bool.{false≢true, cases_eq}
use Rattle.std.proofs.lemmas.Bool.Decides.{nat_tests}
use Rattle.std.proofs.lemmas.List.{length-drop, drop-drop}
use Rattle.std.proofs.Math.Seq.{drop-append_seam}
use Rattle.rz_core.specs.declared.resource.Word.{Word}
use Rattle.rz_lex.specs.declared.sign.Sign.{Sign}
use Rattle.rz_lex.specs.declared.sign.Sign.TheVariants as signs
use Rattle.rz_lex.specs.declared.token.Shape.{Shape}
use Rattle.rz_lex.specs.declared.token.Shape.TheVariants as shapes
use Rattle.rz_lex.specs.declared.token.Token.{Token}
use Rattle.rz_expr.specs.declared.expr.UnaryOp.{UnaryOp}
use Rattle.rz_expr.specs.declared.expr.BinaryOp.{BinaryOp}
use Rattle.rz_expr.specs.declared.expr.BinaryOp.TheVariants as two
use Rattle.rz_expr.specs.declared.operators.Frame.{Frame}
use Rattle.rz_expr.specs.declared.operators.Frame.TheVariants.{Group, InIndex, InStart, InWidth}
use Rattle.rz_words.specs.declared.words.Function.{Function}
use Rattle.rz_words.specs.declared.words.Function.TheVariants.{CountOf, ArrayIndex, BitField, Data}
use Rattle.rz_words.specs.declared.words.Role.{Role}
use Rattle.rz_expr.specs.Term.{Term, Constant, Named as NamedTerm, Indexed, RowsOf, RowNumber, BitsAt, OfOne, OfTwo}
use Rattle.rz_expr.specs.Grammar.{Start, Operand, Label, Prefix, Bracket, Calls, NoStart, After, Operates, Closes, Separates, Indexes, EndsIndex, NoAfter, start_of, after_of, sign_start, word_start, level_of, loosest, argument, is_bracket, Derives, operand, labelled, indexed, prefixed, grouped, counted, numbered, data_at, bits_at, tighter, binary, LongestExpression, NoExpression}
use Rattle.rz_expr.specs.Fronts.{wants, calls, ends, ends_labelled, NoneBegins, NoneEnds, Stops}
use Rattle.rz_expr.specs.Reading.{prefix_at, prefix_of, prefix_count, prefixed_term, operator_of, at_level, operator_at, ends_at, index_at, is_index, Begins, IsFront, Ended, IsEnded}
use Rattle.rz_expr.proofs.Scanning.{begun, behind_name, complete, cut, none_ends, no_longer, one_end, stops_at_end}

-- Fronts by their length.

one_level : (op : BinaryOp) → level_of op ≤ 0 → ⊥
one_level two.Times low = omega (arith, low)
one_level _ low = omega (arith, low)

-- no operator is as tight as an operand, and no index stands after one that is no label
pub stops_zero : (ts : List Token) → Stops 0 false ts
stops_zero ts = record {
  operator = λ t rest op is operates low. absurd (one_level op low);
  index = λ t rest named is begins. absurd (false≢true named);
}

drop_front : (ts front rest : List Token) (n : ℕ) → ts ≡ front ++ rest → length front ≡ n → drop n ts ≡ rest
drop_front ts front rest n whole long = ap (λ k. drop k ts) (sym long) ∙ ap (drop (length front)) whole ∙ drop-append_seam front rest

pub is_front : (level : ℕ) (ts front rest : List Token) (n : ℕ) (e : Term) → ts ≡ front ++ rest → length front ≡ n → 0 < n → (d : Derives level front e) → Stops level (ends_labelled d) rest → IsFront level ts n e
is_front level ts front rest n e whole long some derives stops =
    let behind = drop_front ts front rest n whole long in
    record {
      some = some;
      within = omega (arith, long, ap length whole, length-append front rest);
      reads = record { front = front; whole = whole ∙ ap (λ xs. front ++ xs) (sym behind); derives = derives; stops = subst (Stops level (ends_labelled derives)) (sym behind) stops };
    }

pub is_ended : (frame : Frame) (ts front : List Token) (end : Token) (rest : List Token) (n : ℕ) (e : Term) → ts ≡ front ++ end ∷ rest → length front + 1 ≡ n → Derives loosest front e
    → ends frame (after_of end.shape) ≡ true → IsEnded frame ts n e
is_ended frame ts front end rest n e whole long derives at =
    let split : ts ≡ (front ++ end ∷ []) ++ rest = whole ∙ sym (append_assoc front (end ∷ []) rest) in
    let size : length (front ++ end ∷ []) ≡ n = length-append front (end ∷ []) ∙ long in
    let behind = drop_front ts (front ++ end ∷ []) rest n split size in
    record {
      some = omega (arith, long);
      within = omega (arith, size, ap length split, length-append (front ++ end ∷ []) rest);
      ended = record { front = front; end = end; whole = whole ∙ ap (λ xs. front ++ end ∷ xs) (sym behind); derives = derives; ends = at };
    }

-- the front of a reading, by its length
pub front_length : (level : ℕ) (ts : List Token) (n : ℕ) (e : Term) (f : IsFront level ts n e) → length f.reads.front ≡ n
front_length level ts n e f = omega (arith, f.within, ap length f.reads.whole, length-append f.reads.front (drop n ts), length-drop n ts)

pub ended_length : (frame : Frame) (ts : List Token) (n : ℕ) (e : Term) (f : IsEnded frame ts n e) → length f.ended.front + 1 ≡ n
ended_length frame ts n e f = omega (arith, f.within, ap length f.ended.whole, length-append f.ended.front (f.ended.end ∷ drop n ts), length-drop n ts)

-- Where nothing begins.

pub none_in_nothing : NoneBegins []
none_in_nothing [] left whole h = false≢true h
none_in_nothing (t ∷ front) left whole h = cc

-- a front of tokens that begin with a token of this kind
first_is : (s : Start) (t : Token) (ts : List Token) → start_of t.shape ≡ s → ((front left : List Token) → ts ≡ front ++ left → begun s front [] ≡ true → ⊥) → NoneBegins (t ∷ ts)
first_is s t ts is none [] left whole h = false≢true h
first_is s t ts is none (x ∷ front) left whole h =
    let same : t ≡ x = cc in
    let behind : ts ≡ front ++ left = cc in
    none front left behind (ap (λ k. begun k front []) (sym is ∙ ap (λ (y : Token). start_of y.shape) same) ∙ h)

pub none_of_no_start : (ts : List Token) → Begins NoStart ts → NoneBegins ts
none_of_no_start [] is = absurd is
none_of_no_start (t ∷ ts) is = first_is NoStart t ts is (λ front left whole h. false≢true h)

pub none_grouped : (ts : List Token) → Begins Bracket ts → NoneEnds Group (drop 1 ts) → NoneBegins ts
none_grouped [] is none = absurd is
none_grouped (t ∷ ts) is none = first_is Bracket t ts is (λ front left whole h. none front left [] whole h)

-- a function's word without its name in brackets
no_name : (f : Function) (ts front left : List Token) → argument f ts ≡ None → ts ≡ front ++ left → calls f front [] ≡ true → ⊥
no_name f ts [] left none whole h = false≢true h
no_name f ts (a ∷ []) left none whole h = false≢true h
no_name f ts (a ∷ b ∷ []) left none whole h = false≢true h
no_name f ts (a ∷ b ∷ c ∷ front) left none whole h =
    let nothing : argument f (a ∷ b ∷ c ∷ []) ≡ None = ap (argument f) (sym whole) ∙ none in
    false≢true (sym (ap (λ o. behind_name f o front []) nothing) ∙ h)

pub none_called : (f : Function) (ts : List Token) → Begins (Calls f) ts → argument f (drop 1 ts) ≡ None → NoneBegins ts
none_called f [] is none = absurd is
none_called f (t ∷ ts) is none = first_is (Calls f) t ts is (λ front left whole h. no_name f ts front left none whole h)

-- the tokens of a function with its name
pub record Named (f : Function) (word : Word) (ts : List Token) : Type 0 where
  pub t : Token
  pub a : Token
  pub b : Token
  pub c : Token
  pub rest : List Token
  pub whole : ts ≡ t ∷ a ∷ b ∷ c ∷ rest
  pub start : start_of t.shape ≡ Calls f
  pub name : argument f (a ∷ b ∷ c ∷ []) ≡ Some word

pub named_tokens : (f : Function) (word : Word) (ts : List Token) → Begins (Calls f) ts → argument f (drop 1 ts) ≡ Some word → Named f word ts
named_tokens f word [] is name = absurd is
named_tokens f word (t ∷ []) is name = cc
named_tokens f word (t ∷ a ∷ []) is name = cc
named_tokens f word (t ∷ a ∷ b ∷ []) is name = cc
named_tokens f word (t ∷ a ∷ b ∷ c ∷ ts) is name = record { t = t; a = a; b = b; c = c; rest = ts; whole = refl; start = is; name = name }

pub counted_front : (word : Word) (ts : List Token) → Named CountOf word ts → IsFront 0 ts 4 (RowsOf word.bytes)
counted_front word ts n = is_front 0 ts (n.t ∷ n.a ∷ n.b ∷ n.c ∷ []) n.rest 4 (RowsOf word.bytes) n.whole refl (omega arith) (counted n.start n.name) (stops_zero n.rest)

pub numbered_front : (word : Word) (ts : List Token) → Named ArrayIndex word ts → IsFront 0 ts 4 (RowNumber word.bytes)
numbered_front word ts n = is_front 0 ts (n.t ∷ n.a ∷ n.b ∷ n.c ∷ []) n.rest 4 (RowNumber word.bytes) n.whole refl (omega arith) (numbered n.start n.name) (stops_zero n.rest)

pub data_front : (width : ℕ) (word : Word) (ts : List Token) → Named (Data width) word ts → IsFront 0 ts 4 (BitsAt word.bytes (Constant (pos 0)) (Constant (pos width)))
data_front width word ts n = is_front 0 ts (n.t ∷ n.a ∷ n.b ∷ n.c ∷ []) n.rest 4 _ n.whole refl (omega arith) (data_at n.start n.name) (stops_zero n.rest)

-- after the name of a bit field
field_front : (word : Word) (ts : List Token) (n : Named BitField word ts) → ((front left : List Token) → n.rest ≡ front ++ left → wants front (InStart ∷ []) ≡ true → ⊥) → NoneBegins ts
field_front word ts n none = subst NoneBegins (sym n.whole) (first_is (Calls BitField) n.t (n.a ∷ n.b ∷ n.c ∷ n.rest) n.start behind)
  where
    behind : (front left : List Token) → n.a ∷ n.b ∷ n.c ∷ n.rest ≡ front ++ left → calls BitField front [] ≡ true → ⊥
    behind [] left whole h = false≢true h
    behind (a ∷ []) left whole h = false≢true h
    behind (a ∷ b ∷ []) left whole h = false≢true h
    behind (a ∷ b ∷ c ∷ front) left whole h =
        let same : a ∷ b ∷ c ∷ [] ≡ n.a ∷ n.b ∷ n.c ∷ [] = cc in
        let rest : n.rest ≡ front ++ left = cc in
        none front left rest (sym (ap (λ o. behind_name BitField o front []) (ap (argument BitField) same ∙ n.name)) ∙ h)

pub none_started : (word : Word) (ts : List Token) (n : Named BitField word ts) → NoneEnds InStart n.rest → NoneBegins ts
none_started word ts n none = field_front word ts n (λ front left whole h. none front left [] whole h)

pub none_wide : (word : Word) (ts : List Token) (n : Named BitField word ts) (rest : List Token) (e : Term) → Ended InStart n.rest rest e → NoneEnds InWidth rest → NoneBegins ts
none_wide word ts n rest e start none = field_front word ts n behind
  where
    tail : (x y : Token) (xs ys : List Token) → x ∷ xs ≡ y ∷ ys → xs ≡ ys
    tail x y xs ys is = cc

    behind : (front left : List Token) → n.rest ≡ front ++ left → wants front (InStart ∷ []) ≡ true → ⊥
    behind front left whole h =
        let c = cut InStart [] front [] h in
        let same = one_end start.derives (start.end ∷ rest) (stops_at_end InStart (ends_labelled start.derives) start.end rest start.ends) InStart c.front c.end (c.back ++ left) c.complete c.ends_it
        (sym start.whole ∙ whole ∙ ap (λ xs. xs ++ left) c.whole ∙ append_assoc c.front (c.end ∷ c.back) left) in
        none c.back left [] (tail start.end c.end rest (c.back ++ left) same.1) c.goes_on

separates_at : (a : After) → ends InStart a ≡ true → a ≡ Separates
separates_at Separates at = refl
separates_at Closes at = absurd (false≢true at)
separates_at (Operates op) at = absurd (false≢true at)
separates_at Indexes at = absurd (false≢true at)
separates_at EndsIndex at = absurd (false≢true at)
separates_at NoAfter at = absurd (false≢true at)

closes_group : (a : After) → ends Group a ≡ true → a ≡ Closes
closes_group Closes at = refl
closes_group Separates at = absurd (false≢true at)
closes_group (Operates op) at = absurd (false≢true at)
closes_group Indexes at = absurd (false≢true at)
closes_group EndsIndex at = absurd (false≢true at)
closes_group NoAfter at = absurd (false≢true at)

closes_width : (a : After) → ends InWidth a ≡ true → a ≡ Closes
closes_width Closes at = refl
closes_width Separates at = absurd (false≢true at)
closes_width (Operates op) at = absurd (false≢true at)
closes_width Indexes at = absurd (false≢true at)
closes_width EndsIndex at = absurd (false≢true at)
closes_width NoAfter at = absurd (false≢true at)

closes_index : (a : After) → ends InIndex a ≡ true → a ≡ EndsIndex
closes_index EndsIndex at = refl
closes_index Closes at = absurd (false≢true at)
closes_index Separates at = absurd (false≢true at)
closes_index (Operates op) at = absurd (false≢true at)
closes_index Indexes at = absurd (false≢true at)
closes_index NoAfter at = absurd (false≢true at)

pub field_read : (word : Word) (ts : List Token) (n : Named BitField word ts) (i j : ℕ) (start width : Term) → IsEnded InStart n.rest i start → IsEnded InWidth (drop i n.rest) j width
    → IsFront 0 ts (4 + i + j) (BitsAt word.bytes start width)
field_read word ts n i j start width one other =
    let xs = one.ended.front in
    let ys = other.ended.front in
    let rest = drop j (drop i n.rest) in
    let inner : n.rest ≡ (xs ++ one.ended.end ∷ (ys ++ other.ended.end ∷ [])) ++ rest =
    one.ended.whole ∙ ap (λ zs. xs ++ one.ended.end ∷ zs) (other.ended.whole ∙ sym (append_assoc ys (other.ended.end ∷ []) rest))
    ∙ sym (append_assoc xs (one.ended.end ∷ (ys ++ other.ended.end ∷ [])) rest) in
    is_front 0 ts (n.t ∷ n.a ∷ n.b ∷ n.c ∷ (xs ++ one.ended.end ∷ (ys ++ other.ended.end ∷ []))) rest (4 + i + j) (BitsAt word.bytes start width)
    (n.whole ∙ ap (λ zs. n.t ∷ n.a ∷ n.b ∷ n.c ∷ zs) inner)
    (omega (arith, length-append xs (one.ended.end ∷ (ys ++ other.ended.end ∷ [])), length-append ys (other.ended.end ∷ []), ended_length InStart n.rest i start one, ended_length InWidth (drop i n.rest) j width other))
    (omega arith)
    (bits_at one.ended.end other.ended.end n.start n.name one.ended.derives (separates_at _ one.ended.ends) other.ended.derives (closes_width _ other.ended.ends))
    (stops_zero rest)

pub group_read : (ts : List Token) (n : ℕ) (e : Term) → Begins Bracket ts → IsEnded Group (drop 1 ts) n e → IsFront 0 ts (1 + n) e
group_read [] n e is f = absurd is
group_read (t ∷ ts) n e is f =
    let xs = f.ended.front in
    is_front 0 (t ∷ ts) (t ∷ (xs ++ f.ended.end ∷ [])) (drop n ts) (1 + n) e
    (ap (λ zs. t ∷ zs) (f.ended.whole ∙ sym (append_assoc xs (f.ended.end ∷ []) (drop n ts))))
    (omega (arith, length-append xs (f.ended.end ∷ []), ended_length Group ts n e f))
    (omega arith)
    (grouped f.ended.end is f.ended.derives (closes_group _ f.ended.ends))
    (stops_zero (drop n ts))

pub alone_read : (ts : List Token) (e : Term) → Begins (Operand e) ts → IsFront 0 ts 1 e
alone_read [] e is = absurd is
alone_read (t ∷ ts) e is = is_front 0 (t ∷ ts) (t ∷ []) ts 1 e refl refl (omega arith) (operand is) (stops_zero ts)

-- Labels.

begins_index : (a : After) → is_index a ≡ true → a ≡ Indexes
begins_index Indexes at = refl
begins_index Closes at = absurd (false≢true at)
begins_index Separates at = absurd (false≢true at)
begins_index (Operates op) at = absurd (false≢true at)
begins_index EndsIndex at = absurd (false≢true at)
begins_index NoAfter at = absurd (false≢true at)

-- a label after which no index goes on
label_read : (name : List ℕ) (t : Token) (ts : List Token) → start_of t.shape ≡ Label name
    → ((x : Token) (rest : List Token) → ts ≡ x ∷ rest → after_of x.shape ≡ Indexes → NoneEnds InIndex rest) → IsFront 0 (t ∷ ts) 1 (NamedTerm name)
label_read name t ts is none = is_front 0 (t ∷ ts) (t ∷ []) ts 1 (NamedTerm name) refl refl (omega arith) (labelled is) stops
  where
    stops : Stops 0 true ts
    stops = record { operator = λ x rest op is operates low. absurd (one_level op low); index = λ x rest named. none x rest }

pub label_alone : (ts : List Token) (name : List ℕ) → Begins (Label name) ts → index_at (drop 1 ts) ≡ false → IsFront 0 ts 1 (NamedTerm name)
label_alone [] name is none = absurd is
label_alone (t ∷ ts) name is none = label_read name t ts is (λ x rest at begins. absurd (false≢true (sym none ∙ ap index_at at ∙ ap is_index begins)))

pub label_open : (ts : List Token) (name : List ℕ) → Begins (Label name) ts → NoneEnds InIndex (drop 2 ts) → IsFront 0 ts 1 (NamedTerm name)
label_open [] name is none = absurd is
label_open (t ∷ ts) name is none = label_read name t ts is (λ x rest at begins. subst (NoneEnds InIndex) (ap (drop 1) at) none)

pub index_size : (ts : List Token) → index_at (drop 1 ts) ≡ true → 2 ≤ length ts
index_size [] at = absurd (false≢true at)
index_size (t ∷ []) at = absurd (false≢true at)
index_size (t ∷ x ∷ ts) at = omega arith

pub index_read : (ts : List Token) (name : List ℕ) (n : ℕ) (e : Term) → Begins (Label name) ts → index_at (drop 1 ts) ≡ true → IsEnded InIndex (drop 2 ts) n e
    → IsFront 0 ts (2 + n) (Indexed name e)
index_read [] name n e is at f = absurd is
index_read (t ∷ []) name n e is at f = absurd (false≢true at)
index_read (t ∷ x ∷ ts) name n e is at f =
    let xs = f.ended.front in
    is_front 0 (t ∷ x ∷ ts) (t ∷ x ∷ (xs ++ f.ended.end ∷ [])) (drop n ts) (2 + n) (Indexed name e)
    (ap (λ zs. t ∷ x ∷ zs) (f.ended.whole ∙ sym (append_assoc xs (f.ended.end ∷ []) (drop n ts))))
    (omega (arith, length-append xs (f.ended.end ∷ []), ended_length InIndex ts n e f))
    (omega arith)
    (indexed x f.ended.end is (begins_index _ at) f.ended.derives (closes_index _ f.ended.ends))
    (stops_zero (drop n ts))

-- The same of the tokens after the first four.

field_rest : (word : Word) (ts : List Token) (n : Named BitField word ts) → drop 4 ts ≡ n.rest
field_rest word ts n = ap (drop 4) n.whole

pub field_size : (word : Word) (ts : List Token) (n : Named BitField word ts) → 4 ≤ length ts
field_size word ts n = omega (arith, ap length n.whole)

pub field_not_started : (word : Word) (ts : List Token) (n : Named BitField word ts) → NoneEnds InStart (drop 4 ts) → NoneBegins ts
field_not_started word ts n none = none_started word ts n (subst (NoneEnds InStart) (field_rest word ts n) none)

pub field_not_wide : (word : Word) (ts : List Token) (n : Named BitField word ts) (i : ℕ) (start : Term) → IsEnded InStart (drop 4 ts) i start → NoneEnds InWidth (drop i (drop 4 ts)) → NoneBegins ts
field_not_wide word ts n i start one none =
    let same = field_rest word ts n in
    let there = subst (λ xs. IsEnded InStart xs i start) same one in
    none_wide word ts n (drop i n.rest) start there.ended (subst (λ xs. NoneEnds InWidth (drop i xs)) same none)

pub field_is : (word : Word) (ts : List Token) (n : Named BitField word ts) (i j : ℕ) (start width : Term) → IsEnded InStart (drop 4 ts) i start → IsEnded InWidth (drop i (drop 4 ts)) j width
    → IsFront 0 ts (4 + i + j) (BitsAt word.bytes start width)
field_is word ts n i j start width one other =
    let same = field_rest word ts n in
    field_read word ts n i j start width (subst (λ xs. IsEnded InStart xs i start) same one) (subst (λ xs. IsEnded InWidth (drop i xs) j width) same other)

-- Operands of one token.

pub begins_first : (s : Start) (ts : List Token) (t : Token) → 1 ≤ length ts → t ≡ get_or ts 0 t → start_of t.shape ≡ s → Begins s ts
begins_first s [] t some first is = absurd (omega (arith, some))
begins_first s (x ∷ ts) t some first is = ap (λ (y : Token). start_of y.shape) (sym first) ∙ is

pub alone_front : (ts : List Token) (e : Term) (n : ℕ) (other : Term) → Begins (Operand e) ts → n ≡ 1 → other ≡ e → IsFront 0 ts n other
alone_front ts e n other is one same = subst (λ k. IsFront 0 ts k other) (sym one) (subst (IsFront 0 ts 1) (sym same) (alone_read ts e is))

pub begins_role : (role : Role) (bytes : List ℕ) (given : Role) (ts : List Token) → Begins (word_start given bytes) ts → given ≡ role → Begins (word_start role bytes) ts
begins_role role bytes given ts is same = subst (λ r. Begins (word_start r bytes) ts) same is

pub label_front : (ts : List Token) (name : List ℕ) (n : ℕ) (e : Term) → IsFront 0 ts 1 (NamedTerm name) → n ≡ 1 → e ≡ NamedTerm name → IsFront 0 ts n e
label_front ts name n e is one same = subst (λ k. IsFront 0 ts k e) (sym one) (subst (IsFront 0 ts 1) (sym same) is)

-- An expression up to the end of a frame.

pub until_read : (frame : Frame) (ts : List Token) (n : ℕ) (e : Term) → IsFront loosest ts n e → ends_at frame (drop n ts) ≡ true → IsEnded frame ts (n + 1) e
until_read frame ts n e f at = by (drop n ts) refl at
  where
    by : (rest : List Token) → drop n ts ≡ rest → ends_at frame rest ≡ true → IsEnded frame ts (n + 1) e
    by [] is at = absurd (false≢true at)
    by (t ∷ rest) is at = is_ended frame ts f.reads.front t rest (n + 1) e (f.reads.whole ∙ ap (λ xs. f.reads.front ++ xs) is) (ap (λ k. k + 1) (front_length loosest ts n e f)) f.reads.derives at

pub until_open : (frame : Frame) (ts : List Token) (n : ℕ) (e : Term) → IsFront loosest ts n e → ends_at frame (drop n ts) ≡ false → NoneEnds frame ts
until_open frame ts n e f open_end front left below whole h =
    let c = cut frame below front [] h in
    let same = one_end f.reads.derives (drop n ts) f.reads.stops frame c.front c.end (c.back ++ left) c.complete c.ends_it
    (sym f.reads.whole ∙ whole ∙ ap (λ xs. xs ++ left) c.whole ∙ append_assoc c.front (c.end ∷ c.back) left) in
    false≢true (sym open_end ∙ ap (ends_at frame) same.1 ∙ c.ends_it)

pub until_none : (frame : Frame) (ts : List Token) → NoneBegins ts → NoneEnds frame ts
until_none frame ts none front left below whole h = none_ends frame below ts none front left whole h

-- Operators before an operand.

prefix_start : (s : Sign) (op : UnaryOp) → prefix_of s ≡ Some op → sign_start s ≡ Prefix op
prefix_start signs.Minus op is = ap prefixes is
  where
    prefixes : Option UnaryOp → Start
    prefixes None = NoStart
    prefixes (Some op) = Prefix op
prefix_start signs.Tilde op is = ap prefixes is
  where
    prefixes : Option UnaryOp → Start
    prefixes None = NoStart
    prefixes (Some op) = Prefix op
prefix_start signs.Bang op is = ap prefixes is
  where
    prefixes : Option UnaryOp → Start
    prefixes None = NoStart
    prefixes (Some op) = Prefix op
prefix_start _ op is = absurd cc

prefix_is : (t : Token) (op : UnaryOp) → prefix_at t.shape ≡ Some op → start_of t.shape ≡ Prefix op
prefix_is t op is = by t.shape is
  where
    by : (s : Shape) → prefix_at s ≡ Some op → start_of s ≡ Prefix op
    by (shapes.Sign s) is = prefix_start s op is
    by (shapes.Number n) is = absurd cc
    by (shapes.Literal bytes) is = absurd cc
    by (shapes.Text bytes) is = absurd cc
    by (shapes.Word word) is = absurd cc

-- a sign that is neither a bracket nor such an operator begins nothing
pub plain_sign : (s : Sign) → is_bracket (sign_start s) ≡ false → prefix_of s ≡ None → sign_start s ≡ NoStart
plain_sign signs.OpenParen bracket none = absurd cc
plain_sign signs.Minus bracket none = absurd cc
plain_sign signs.Tilde bracket none = absurd cc
plain_sign signs.Bang bracket none = absurd cc
plain_sign _ bracket none = refl

pub prefix_rest : (ts : List Token) → prefix_count (drop (prefix_count ts) ts) ≡ 0
prefix_rest [] = refl
prefix_rest (t ∷ ts) = by (is_some (prefix_at t.shape)) refl (prefix_rest ts)
  where
    by : (b : Bool) → is_some (prefix_at t.shape) ≡ b → prefix_count (drop (prefix_count ts) ts) ≡ 0 → prefix_count (drop (if b then suc (prefix_count ts) else 0) (t ∷ ts)) ≡ 0
    by true is more = more
    by false is more = rw is refl

pub no_prefixes : (ts : List Token) → NoneBegins (drop (prefix_count ts) ts) → NoneBegins ts
no_prefixes [] none = none
no_prefixes (t ∷ ts) none = by (prefix_at t.shape) refl (no_prefixes ts) none
  where
    by : (o : Option UnaryOp) → prefix_at t.shape ≡ o → (NoneBegins (drop (prefix_count ts) ts) → NoneBegins ts)
        → NoneBegins (drop (if is_some o then suc (prefix_count ts) else 0) (t ∷ ts)) → NoneBegins (t ∷ ts)
    by None is more none = none
    by (Some op) is more none = first_is (Prefix op) t ts (prefix_is t op is) (more none)

pub prefixes_read : (ts : List Token) (n : ℕ) (e : Term) → IsFront 0 (drop (prefix_count ts) ts) n e → IsFront 0 ts (prefix_count ts + n) (prefixed_term (take (prefix_count ts) ts) e)
prefixes_read [] n e f = let same : n ≡ 0 + n = omega arith in subst (λ k. IsFront 0 [] k e) same f
prefixes_read (t ∷ ts) n e f = by (prefix_at t.shape) refl (prefixes_read ts n e) f
  where
    by : (o : Option UnaryOp) → prefix_at t.shape ≡ o
        → (IsFront 0 (drop (prefix_count ts) ts) n e → IsFront 0 ts (prefix_count ts + n) (prefixed_term (take (prefix_count ts) ts) e))
        → IsFront 0 (drop (if is_some o then suc (prefix_count ts) else 0) (t ∷ ts)) n e
        → IsFront 0 (t ∷ ts) ((if is_some o then suc (prefix_count ts) else 0) + n) (prefixed_term (take (if is_some o then suc (prefix_count ts) else 0) (t ∷ ts)) e)
    by None is more f = let same : n ≡ 0 + n = omega arith in subst (λ k. IsFront 0 (t ∷ ts) k e) same f
    by (Some op) is more f =
        let inner = more f in
        let rest = drop (prefix_count ts + n) ts in
        let size : length (t ∷ inner.reads.front) ≡ suc (prefix_count ts) + n = omega (arith, front_length 0 ts (prefix_count ts + n) _ inner) in
        let front = is_front 0 (t ∷ ts) (t ∷ inner.reads.front) rest (suc (prefix_count ts) + n) (OfOne op (prefixed_term (take (prefix_count ts) ts) e))
        (ap (λ xs. t ∷ xs) inner.reads.whole) size (omega arith)
        (prefixed (prefix_is t op is) inner.reads.derives) inner.reads.stops in
        rw is front

-- Operators between operands.

pub record Operation (level : ℕ) (ts : List Token) (op : BinaryOp) : Type 0 where
  pub t : Token
  pub rest : List Token
  pub whole : ts ≡ t ∷ rest
  pub is : after_of t.shape ≡ Operates op
  pub at : level_of op ≡ level

of_level : (level : ℕ) (a : After) (op : BinaryOp) → at_level level (operator_of a) ≡ Some op → (a ≡ Operates op) × (level_of op ≡ level)
of_level level (Operates other) op is = elim (cases_eq (level_of other) level) [
  | inl same ↦ (let h : other ≡ op = one_op other op (sym (at same) ∙ is) in (ap Operates h, ap level_of (sym h) ∙ same))
  | inr differ ↦ absurd (nothing op (sym (missed differ) ∙ is))
]
  where
    at : level_of other ≡ level → at_level level (Some other) ≡ Some other
    at same = grind (arith, nat_tests)

    missed : (level_of other ≡ level → ⊥) → at_level level (Some other) ≡ None
    missed differ = grind (arith, nat_tests)

    one_op : (p q : BinaryOp) → ◌≡◌ {A = Option BinaryOp} (Some p) (Some q) → p ≡ q
    one_op p q is = cc

    nothing : (p : BinaryOp) → ◌≡◌ {A = Option BinaryOp} None (Some p) → ⊥
    nothing p is = cc
of_level level Closes op is = absurd cc
of_level level Separates op is = absurd cc
of_level level Indexes op is = absurd cc
of_level level EndsIndex op is = absurd cc
of_level level NoAfter op is = absurd cc

pub operation : (level : ℕ) (ts : List Token) (op : BinaryOp) → operator_at level ts ≡ Some op → Operation level ts op
operation level [] op is = absurd cc
operation level (t ∷ ts) op is = let h = of_level level (after_of t.shape) op is in record { t = t; rest = ts; whole = refl; is = h.0; at = h.1 }

operator_found : (level : ℕ) (t : Token) (ts : List Token) (op : BinaryOp) → after_of t.shape ≡ Operates op → level_of op ≡ level → operator_at level (t ∷ ts) ≡ Some op
operator_found level t ts op is at = ap (λ a. at_level level (operator_of a)) is ∙ found at
  where
    found : level_of op ≡ level → at_level level (Some op) ≡ Some op
    found at = grind (arith, nat_tests)

-- what an expression of a level with more operands to come keeps
pub record SoFar (level : ℕ) (ts : List Token) (n : ℕ) (e : Term) : Type 0 where
  pub some : 0 < n
  pub within : n ≤ length ts
  pub front : List Token
  pub whole : ts ≡ front ++ drop n ts
  pub derives : Derives level front e
  pub stops : Stops (level - 1) (ends_labelled derives) (drop n ts)

pub first_operand : (level : ℕ) (ts : List Token) (n : ℕ) (e : Term) → 0 < level → IsFront (level - 1) ts n e → SoFar level ts n e
first_operand zero ts n e some f = absurd (omega (arith, some))
first_operand (suc level) ts n e some f =
    let same : suc level - 1 ≡ level = omega arith in
    let it = subst (λ k. IsFront k ts n e) same f in
    record {
      some = it.some;
      within = it.within;
      front = it.reads.front;
      whole = it.reads.whole;
      derives = tighter it.reads.derives;
      stops = subst (λ k. Stops k (ends_labelled it.reads.derives) (drop n ts)) (sym same) it.reads.stops;
    }

pub no_operator : (level : ℕ) (ts : List Token) (n : ℕ) (e : Term) → 0 < level → SoFar level ts n e → operator_at level (drop n ts) ≡ None → IsFront level ts n e
no_operator level ts n e some so none = record {
  some = so.some;
  within = so.within;
  reads = record { front = so.front; whole = so.whole; derives = so.derives; stops = record { operator = operator; index = so.stops.index } };
}
  where
    nothing : (p : BinaryOp) → ◌≡◌ {A = Option BinaryOp} None (Some p) → ⊥
    nothing p is = cc

    operator : (t : Token) (rest : List Token) (op : BinaryOp) → drop n ts ≡ t ∷ rest → after_of t.shape ≡ Operates op → level_of op ≤ level → NoneBegins rest
    operator t rest op is operates low = elim (cases_eq (level_of op) level) [
      | inl same ↦ absurd (nothing op (sym none ∙ ap (operator_at level) is ∙ operator_found level t rest op operates same))
      | inr differ ↦ so.stops.operator t rest op is operates (omega (arith, low, differ, some))
    ]

pub no_operand : (level : ℕ) (ts : List Token) (n : ℕ) (e : Term) (op : BinaryOp) → SoFar level ts n e → operator_at level (drop n ts) ≡ Some op → NoneBegins (drop 1 (drop n ts)) → IsFront level ts n e
no_operand level ts n e op so found none = record {
  some = so.some;
  within = so.within;
  reads = record { front = so.front; whole = so.whole; derives = so.derives; stops = record { operator = operator; index = so.stops.index } };
}
  where
    operator : (t : Token) (rest : List Token) (other : BinaryOp) → drop n ts ≡ t ∷ rest → after_of t.shape ≡ Operates other → level_of other ≤ level → NoneBegins rest
    operator t rest other is operates low = subst NoneBegins (ap (drop 1) is) none

pub one_operand_more : (level : ℕ) (ts : List Token) (n m : ℕ) (l r : Term) (op : BinaryOp) → 0 < level → SoFar level ts n l → operator_at level (drop n ts) ≡ Some op
    → IsFront (level - 1) (drop 1 (drop n ts)) m r → SoFar level ts (n + 1 + m) (OfTwo op l r)
one_operand_more zero ts n m l r op some so found right = absurd (omega (arith, some))
one_operand_more (suc level) ts n m l r op some so found right =
    let same : suc level - 1 ≡ level = omega arith in
    let o = operation (suc level) (drop n ts) op found in
    let tail : drop 1 (drop n ts) ≡ o.rest = ap (drop 1) o.whole in
    let left_over : drop m (drop 1 (drop n ts)) ≡ drop (n + 1 + m) ts = ap (drop m) (drop-drop 1 n ts) ∙ drop-drop m (n + 1) ts in
    let it = subst (λ k. IsFront k (drop 1 (drop n ts)) m r) same right in
    let ys = it.reads.front in
    let size : length (drop n ts) ≡ suc (length o.rest) = ap length o.whole in
    record {
      some = omega arith;
      within = omega (arith, so.within, it.within, size, ap length tail, length-drop n ts);
      front = so.front ++ o.t ∷ ys;
      whole = so.whole ∙ ap (λ xs. so.front ++ xs) (o.whole ∙ ap (λ xs. o.t ∷ xs) (sym tail ∙ it.reads.whole ∙ ap (λ xs. ys ++ xs) left_over))
          ∙ sym (append_assoc so.front (o.t ∷ ys) (drop (n + 1 + m) ts));
      derives = binary so.front ys o.t o.is o.at so.derives it.reads.derives;
      stops = subst (λ k. Stops k (ends_labelled it.reads.derives) (drop (n + 1 + m) ts)) (sym same) (subst (Stops level (ends_labelled it.reads.derives)) left_over it.reads.stops);
    }

-- The whole reader.

pub longest : (ts : List Token) (n : ℕ) (e : Term) → IsFront loosest ts n e → LongestExpression ts (drop n ts) e
longest ts n e f = record {
  front = f.reads.front;
  whole = f.reads.whole;
  is = f.reads.derives;
  longest = λ more left other behind some is. some (no_longer f.reads.derives (drop n ts) f.reads.stops more left behind (complete is));
}

pub none_at_all : (ts : List Token) → NoneBegins ts → NoExpression ts
none_at_all ts none front left e whole is = none front left whole (complete is)

-- where an expression that was read at a position ends
pub read_end : (start : ℕ) (ts : List Token) (n : ℕ) (e : Term) → start ≤ length ts → IsFront loosest (drop start ts) n e → (start < start + n) × (start + n ≤ length ts)
read_end start ts n e within f = (omega (arith, f.some), omega (arith, within, f.within, length-drop start ts))

pub read_longest : (start : ℕ) (ts : List Token) (n : ℕ) (e : Term) → IsFront loosest (drop start ts) n e → LongestExpression (drop start ts) (drop (start + n) ts) e
read_longest start ts n e f = subst (λ rest. LongestExpression (drop start ts) rest e) (drop-drop n start ts) (longest (drop start ts) n e f)
