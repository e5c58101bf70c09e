-- Which fronts complete an expression.
use Rattle.std.proofs.Common.{◌≡◌, ℕ, ◌≤◌, ◌&&◌, Bool, true, false, ◌⊎◌, inl, inr, List, [], ◌∷◌, ◌++◌, Option, Some, None, refl, sym, ap, subst, ◌∙◌, arith, append_assoc}
use Rattle.std.proofs.lemmas.Bool.{false≢true}
use Rattle.std.proofs.lemmas.List.{append-nil}
use Rattle.rz_core.specs.declared.resource.Word.{Word}
use Rattle.rz_lex.specs.declared.token.Token.{Token}
use Rattle.rz_expr.specs.declared.expr.BinaryOp.{BinaryOp}
use Rattle.rz_expr.specs.declared.expr.BinaryOp.TheVariants as two
use Rattle.rz_expr.specs.declared.operators.Frame.{Frame}
use Rattle.rz_expr.specs.declared.operators.Frame.TheVariants.{Group, InIndex, InStart, InWidth}
use Rattle.rz_words.specs.declared.words.Function.{Function}
use Rattle.rz_words.specs.declared.words.Function.TheVariants.{CountOf, ArrayIndex, BitField, Data}
use Rattle.rz_expr.specs.Term.{Term}
use Rattle.rz_expr.specs.Grammar.{Start, Operand, Label, Prefix, Bracket, Calls, NoStart, After, Operates, Closes, Separates, Indexes, EndsIndex, NoAfter, start_of, after_of, level_of, loosest, argument, Derives, operand, labelled, indexed, prefixed, grouped, counted, numbered, data_at, bits_at, tighter, binary}
use Rattle.rz_expr.specs.Fronts.{started, named, went_on, wants, haves, calls, ends, ends_labelled, NoneBegins, Stops}

-- what is answered by a token of a kind
abbrev pub begun : Start → List Token → List Frame → Bool
begun start ts frames = started start (λ label. haves label ts frames) (wants ts frames) (wants ts (Group ∷ frames)) (λ function. calls function ts frames)

abbrev pub gone : After → Bool → List Token → List Frame → Bool
gone after label ts frames = went_on after frames (wants ts frames) (λ below. haves false ts below) (λ below. wants ts (InWidth ∷ below)) (label && wants ts (InIndex ∷ frames))

abbrev pub behind_name : Function → Option Word → List Token → List Frame → Bool
behind_name function word ts frames = named function word (haves false ts frames) (wants ts (InStart ∷ frames))

-- What follows an expression is read as after an operand.
pub flat : {level : ℕ} {xs : List Token} {e : Term} (d : Derives level xs e) (ys : List Token) (frames : List Frame) → wants (xs ++ ys) frames ≡ haves (ends_labelled d) ys frames
flat (operand {t} is) ys frames = ap (λ s. begun s ys frames) is
flat (labelled {t} is) ys frames = ap (λ s. begun s ys frames) is
flat (indexed {t} {ts} bracket close is begins r end) ys frames =
    ap (λ s. begun s (bracket ∷ ((ts ++ close ∷ []) ++ ys)) frames) is
    ∙ ap (λ a. gone a true ((ts ++ close ∷ []) ++ ys) frames) begins
    ∙ ap (λ zs. wants zs (InIndex ∷ frames)) (append_assoc ts (close ∷ []) ys)
    ∙ flat r (close ∷ ys) (InIndex ∷ frames)
    ∙ ap (λ a. gone a (ends_labelled r) ys (InIndex ∷ frames)) end
flat (prefixed {t} {ts} is r) ys frames = ap (λ s. begun s (ts ++ ys) frames) is ∙ flat r ys frames
flat (grouped {t} {ts} close is r end) ys frames =
    ap (λ s. begun s ((ts ++ close ∷ []) ++ ys) frames) is
    ∙ ap (λ zs. wants zs (Group ∷ frames)) (append_assoc ts (close ∷ []) ys)
    ∙ flat r (close ∷ ys) (Group ∷ frames)
    ∙ ap (λ a. gone a (ends_labelled r) ys (Group ∷ frames)) end
flat (counted {t} {a} {b} {c} {word} is name) ys frames =
    ap (λ s. begun s (a ∷ b ∷ c ∷ ys) frames) is ∙ ap (λ o. behind_name CountOf o ys frames) name
flat (numbered {t} {a} {b} {c} {word} is name) ys frames =
    ap (λ s. begun s (a ∷ b ∷ c ∷ ys) frames) is ∙ ap (λ o. behind_name ArrayIndex o ys frames) name
flat (data_at {t} {a} {b} {c} {word} {width} is name) ys frames =
    ap (λ s. begun s (a ∷ b ∷ c ∷ ys) frames) is ∙ ap (λ o. behind_name (Data width) o ys frames) name
flat (bits_at {t} {a} {b} {c} {word} {xs} {ys = zs} comma close is name left separate right end) ys frames =
    ap (λ s. begun s (a ∷ b ∷ c ∷ ((xs ++ comma ∷ (zs ++ close ∷ [])) ++ ys)) frames) is
    ∙ ap (λ o. behind_name BitField o ((xs ++ comma ∷ (zs ++ close ∷ [])) ++ ys) frames) name
    ∙ ap (λ l. wants l (InStart ∷ frames)) (append_assoc xs (comma ∷ (zs ++ close ∷ [])) ys)
    ∙ flat left (comma ∷ ((zs ++ close ∷ []) ++ ys)) (InStart ∷ frames)
    ∙ ap (λ x. gone x (ends_labelled left) ((zs ++ close ∷ []) ++ ys) (InStart ∷ frames)) separate
    ∙ ap (λ l. wants l (InWidth ∷ frames)) (append_assoc zs (close ∷ []) ys)
    ∙ flat right (close ∷ ys) (InWidth ∷ frames)
    ∙ ap (λ x. gone x (ends_labelled right) ys (InWidth ∷ frames)) end
flat (tighter r) ys frames = flat r ys frames
flat (binary {level} {op} xs zs t is at left right) ys frames =
    ap (λ ts. wants ts frames) (append_assoc xs (t ∷ zs) ys)
    ∙ flat left (t ∷ (zs ++ ys)) frames
    ∙ ap (λ a. gone a (ends_labelled left) (zs ++ ys) frames) is
    ∙ flat right ys frames

pub complete : {level : ℕ} {xs : List Token} {e : Term} → Derives level xs e → wants xs [] ≡ true
complete {level} {xs} r = ap (λ ts. wants ts []) (sym (append-nil xs)) ∙ flat r [] []

-- Answers, case by case.

started_so : (s : Start) (have : Bool → Bool) (want bracket : Bool) (call : Function → Bool) (have2 : Bool → Bool) (want2 bracket2 : Bool) (call2 : Function → Bool) (answer : Bool)
    → ((label : Bool) → have label ≡ true → have2 label ≡ answer) → (want ≡ true → want2 ≡ answer) → (bracket ≡ true → bracket2 ≡ answer) → ((f : Function) → call f ≡ true → call2 f ≡ answer)
    → started s have want bracket call ≡ true → started s have2 want2 bracket2 call2 ≡ answer
started_so (Operand e) have want bracket call have2 want2 bracket2 call2 answer h w b c is = h false is
started_so (Label name) have want bracket call have2 want2 bracket2 call2 answer h w b c is = h true is
started_so (Prefix op) have want bracket call have2 want2 bracket2 call2 answer h w b c is = w is
started_so Bracket have want bracket call have2 want2 bracket2 call2 answer h w b c is = b is
started_so (Calls f) have want bracket call have2 want2 bracket2 call2 answer h w b c is = c f is
started_so NoStart have want bracket call have2 want2 bracket2 call2 answer h w b c is = absurd (false≢true is)

named_so : (f : Function) (o : Option Word) (have want have2 want2 answer : Bool) → (have ≡ true → have2 ≡ answer) → (want ≡ true → want2 ≡ answer)
    → named f o have want ≡ true → named f o have2 want2 ≡ answer
named_so f None have want have2 want2 answer h w is = absurd (false≢true is)
named_so CountOf (Some word) have want have2 want2 answer h w is = h is
named_so ArrayIndex (Some word) have want have2 want2 answer h w is = h is
named_so (Data width) (Some word) have want have2 want2 answer h w is = h is
named_so BitField (Some word) have want have2 want2 answer h w is = w is

went_so : (a : After) (frames : List Frame) (want : Bool) (close separate : List Frame → Bool) (index want2 : Bool) (close2 separate2 : List Frame → Bool) (index2 answer : Bool)
    → (want ≡ true → want2 ≡ answer) → ((below : List Frame) → close below ≡ true → close2 below ≡ answer) → ((below : List Frame) → separate below ≡ true → separate2 below ≡ answer)
    → (index ≡ true → index2 ≡ answer) → went_on a frames want close separate index ≡ true → went_on a frames want2 close2 separate2 index2 ≡ answer
went_so (Operates op) frames want close separate index want2 close2 separate2 index2 answer w c s i is = w is
went_so Closes [] want close separate index want2 close2 separate2 index2 answer w c s i is = absurd (false≢true is)
went_so Closes (Group ∷ below) want close separate index want2 close2 separate2 index2 answer w c s i is = c below is
went_so Closes (InWidth ∷ below) want close separate index want2 close2 separate2 index2 answer w c s i is = c below is
went_so Closes (InStart ∷ below) want close separate index want2 close2 separate2 index2 answer w c s i is = absurd (false≢true is)
went_so Closes (InIndex ∷ below) want close separate index want2 close2 separate2 index2 answer w c s i is = absurd (false≢true is)
went_so Separates [] want close separate index want2 close2 separate2 index2 answer w c s i is = absurd (false≢true is)
went_so Separates (Group ∷ below) want close separate index want2 close2 separate2 index2 answer w c s i is = absurd (false≢true is)
went_so Separates (InWidth ∷ below) want close separate index want2 close2 separate2 index2 answer w c s i is = absurd (false≢true is)
went_so Separates (InStart ∷ below) want close separate index want2 close2 separate2 index2 answer w c s i is = s below is
went_so Separates (InIndex ∷ below) want close separate index want2 close2 separate2 index2 answer w c s i is = absurd (false≢true is)
went_so EndsIndex [] want close separate index want2 close2 separate2 index2 answer w c s i is = absurd (false≢true is)
went_so EndsIndex (Group ∷ below) want close separate index want2 close2 separate2 index2 answer w c s i is = absurd (false≢true is)
went_so EndsIndex (InWidth ∷ below) want close separate index want2 close2 separate2 index2 answer w c s i is = absurd (false≢true is)
went_so EndsIndex (InStart ∷ below) want close separate index want2 close2 separate2 index2 answer w c s i is = absurd (false≢true is)
went_so EndsIndex (InIndex ∷ below) want close separate index want2 close2 separate2 index2 answer w c s i is = c below is
went_so Indexes frames want close separate index want2 close2 separate2 index2 answer w c s i is = i is
went_so NoAfter frames want close separate index want2 close2 separate2 index2 answer w c s i is = absurd (false≢true is)

index_so : (label want want2 answer : Bool) → (want ≡ true → want2 ≡ answer) → (label && want) ≡ true → (label && want2) ≡ answer
index_so true want want2 answer w is = w is
index_so false want want2 answer w is = absurd (false≢true is)

-- After tokens that complete an expression the rest, which begins no index, is read as after an operand.
module _ (ys : List Token) (plain : haves true ys [] ≡ haves false ys []) where
  plain_at : (label : Bool) → haves label ys [] ≡ haves false ys []
  plain_at true = plain
  plain_at false = refl

  mutual
    pub accepted : (xs : List Token) (frames : List Frame) → wants xs frames ≡ true → wants (xs ++ ys) frames ≡ haves false ys []
    accepted [] frames h = absurd (false≢true h)
    accepted (t ∷ ts) frames h =
        started_so (start_of t.shape) _ _ _ _ _ _ _ _ (haves false ys []) (λ label. accepted_behind label ts frames) (accepted ts frames) (accepted ts (Group ∷ frames)) (λ f. accepted_call f ts frames) h

    accepted_behind : (label : Bool) (xs : List Token) (frames : List Frame) → haves label xs frames ≡ true → haves label (xs ++ ys) frames ≡ haves false ys []
    accepted_behind label [] [] h = plain_at label
    accepted_behind label [] (frame ∷ frames) h = absurd (false≢true h)
    accepted_behind label (t ∷ ts) frames h =
        went_so (after_of t.shape) frames _ _ _ _ _ _ _ _ (haves false ys []) (accepted ts frames) (λ below. accepted_behind false ts below) (λ below. accepted ts (InWidth ∷ below))
        (index_so label _ _ (haves false ys []) (accepted ts (InIndex ∷ frames))) h

    accepted_call : (f : Function) (xs : List Token) (frames : List Frame) → calls f xs frames ≡ true → calls f (xs ++ ys) frames ≡ haves false ys []
    accepted_call f [] frames h = absurd (false≢true h)
    accepted_call f (a ∷ []) frames h = absurd (false≢true h)
    accepted_call f (a ∷ b ∷ []) frames h = absurd (false≢true h)
    accepted_call f (a ∷ b ∷ c ∷ ts) frames h =
        named_so f (argument f (a ∷ b ∷ c ∷ [])) _ _ _ _ (haves false ys []) (accepted_behind false ts frames) (accepted ts (InStart ∷ frames)) h

-- What completes a frame has the frame's end, complete before it and read on after it.

abbrev passed : Frame → List Token → List Frame → Bool
passed Group ts below = haves false ts below
passed InWidth ts below = haves false ts below
passed InIndex ts below = haves false ts below
passed InStart ts below = wants ts (InWidth ∷ below)

pub record Cut (frame : Frame) (ts : List Token) (below : List Frame) (read : List Token → Bool) : Type 0 where
  pub front : List Token
  pub end : Token
  pub back : List Token
  pub whole : ts ≡ front ++ end ∷ back
  pub complete : read front ≡ true
  pub ends_it : ends frame (after_of end.shape) ≡ true
  pub goes_on : passed frame back below ≡ true

module _ (frame : Frame) (below : List Frame) where
  one_more : (t : Token) (ts : List Token) (read also : List Token → Bool) → ((xs : List Token) → read xs ≡ true → also (t ∷ xs) ≡ true) → Cut frame ts below read → Cut frame (t ∷ ts) below also
  one_more t ts read also so c = record {
    front = t ∷ c.front;
    end = c.end;
    back = c.back;
    whole = ap (λ xs. t ∷ xs) c.whole;
    complete = so c.front c.complete;
    ends_it = c.ends_it;
    goes_on = c.goes_on;
  }

  here : (t : Token) (ts : List Token) (read : List Token → Bool) → read [] ≡ true → ends frame (after_of t.shape) ≡ true → passed frame ts below ≡ true → Cut frame (t ∷ ts) below read
  here t ts read empty at on = record { front = []; end = t; back = ts; whole = refl; complete = empty; ends_it = at; goes_on = on }

  cut_start : (s : Start) (t : Token) (ts : List Token) (above : List Frame) → start_of t.shape ≡ s
      → ((label : Bool) → haves label ts (above ++ frame ∷ below) ≡ true → Cut frame ts below (λ xs. haves label xs above))
      → (wants ts (above ++ frame ∷ below) ≡ true → Cut frame ts below (λ xs. wants xs above))
      → (wants ts (Group ∷ (above ++ frame ∷ below)) ≡ true → Cut frame ts below (λ xs. wants xs (Group ∷ above)))
      → ((f : Function) → calls f ts (above ++ frame ∷ below) ≡ true → Cut frame ts below (λ xs. calls f xs above))
      → begun s ts (above ++ frame ∷ below) ≡ true → Cut frame (t ∷ ts) below (λ xs. wants xs above)
  cut_start (Operand e) t ts above is h w b c on = one_more t ts (λ xs. haves false xs above) (λ xs. wants xs above) (λ xs r. ap (λ s. begun s xs above) is ∙ r) (h false on)
  cut_start (Label name) t ts above is h w b c on = one_more t ts (λ xs. haves true xs above) (λ xs. wants xs above) (λ xs r. ap (λ s. begun s xs above) is ∙ r) (h true on)
  cut_start (Prefix op) t ts above is h w b c on = one_more t ts (λ xs. wants xs above) (λ xs. wants xs above) (λ xs r. ap (λ s. begun s xs above) is ∙ r) (w on)
  cut_start Bracket t ts above is h w b c on = one_more t ts (λ xs. wants xs (Group ∷ above)) (λ xs. wants xs above) (λ xs r. ap (λ s. begun s xs above) is ∙ r) (b on)
  cut_start (Calls f) t ts above is h w b c on = one_more t ts (λ xs. calls f xs above) (λ xs. wants xs above) (λ xs r. ap (λ s. begun s xs above) is ∙ r) (c f on)
  cut_start NoStart t ts above is h w b c on = absurd (false≢true on)

  cut_after : (x : After) (label : Bool) (t : Token) (ts : List Token) (above : List Frame) → after_of t.shape ≡ x
      → (wants ts (above ++ frame ∷ below) ≡ true → Cut frame ts below (λ xs. wants xs above))
      → ((fs : List Frame) → haves false ts (fs ++ frame ∷ below) ≡ true → Cut frame ts below (λ xs. haves false xs fs))
      → ((fs : List Frame) → wants ts (InWidth ∷ (fs ++ frame ∷ below)) ≡ true → Cut frame ts below (λ xs. wants xs (InWidth ∷ fs)))
      → (wants ts (InIndex ∷ (above ++ frame ∷ below)) ≡ true → Cut frame ts below (λ xs. wants xs (InIndex ∷ above)))
      → gone x label ts (above ++ frame ∷ below) ≡ true → Cut frame (t ∷ ts) below (λ xs. haves label xs above)
  cut_after (Operates op) label t ts above is w c s i on =
      one_more t ts (λ xs. wants xs above) (λ xs. haves label xs above) (λ xs r. ap (λ a. gone a label xs above) is ∙ r) (w on)
  cut_after Closes label t ts [] is w c s i on = here t ts (λ xs. haves label xs []) refl (ap (ends frame) is ∙ at_end frame on) (behind frame on)
    where
      at_end : (f : Frame) → gone Closes label ts (f ∷ below) ≡ true → ends f Closes ≡ true
      at_end Group on = refl
      at_end InWidth on = refl
      at_end InStart on = on
      at_end InIndex on = on

      behind : (f : Frame) → gone Closes label ts (f ∷ below) ≡ true → passed f ts below ≡ true
      behind Group on = on
      behind InWidth on = on
      behind InStart on = absurd (false≢true on)
      behind InIndex on = absurd (false≢true on)
  cut_after Closes label t ts (Group ∷ above) is w c s i on =
      one_more t ts (λ xs. haves false xs above) (λ xs. haves label xs (Group ∷ above)) (λ xs r. ap (λ a. gone a label xs (Group ∷ above)) is ∙ r) (c above on)
  cut_after Closes label t ts (InWidth ∷ above) is w c s i on =
      one_more t ts (λ xs. haves false xs above) (λ xs. haves label xs (InWidth ∷ above)) (λ xs r. ap (λ a. gone a label xs (InWidth ∷ above)) is ∙ r) (c above on)
  cut_after Closes label t ts (InStart ∷ above) is w c s i on = absurd (false≢true on)
  cut_after Closes label t ts (InIndex ∷ above) is w c s i on = absurd (false≢true on)
  cut_after Separates label t ts [] is w c s i on = here t ts (λ xs. haves label xs []) refl (ap (ends frame) is ∙ at_end frame on) (behind frame on)
    where
      at_end : (f : Frame) → gone Separates label ts (f ∷ below) ≡ true → ends f Separates ≡ true
      at_end Group on = on
      at_end InWidth on = on
      at_end InStart on = refl
      at_end InIndex on = on

      behind : (f : Frame) → gone Separates label ts (f ∷ below) ≡ true → passed f ts below ≡ true
      behind Group on = absurd (false≢true on)
      behind InWidth on = absurd (false≢true on)
      behind InStart on = on
      behind InIndex on = absurd (false≢true on)
  cut_after Separates label t ts (Group ∷ above) is w c s i on = absurd (false≢true on)
  cut_after Separates label t ts (InWidth ∷ above) is w c s i on = absurd (false≢true on)
  cut_after Separates label t ts (InStart ∷ above) is w c s i on =
      one_more t ts (λ xs. wants xs (InWidth ∷ above)) (λ xs. haves label xs (InStart ∷ above)) (λ xs r. ap (λ a. gone a label xs (InStart ∷ above)) is ∙ r) (s above on)
  cut_after Separates label t ts (InIndex ∷ above) is w c s i on = absurd (false≢true on)
  cut_after EndsIndex label t ts [] is w c s i on = here t ts (λ xs. haves label xs []) refl (ap (ends frame) is ∙ at_end frame on) (behind frame on)
    where
      at_end : (f : Frame) → gone EndsIndex label ts (f ∷ below) ≡ true → ends f EndsIndex ≡ true
      at_end Group on = on
      at_end InWidth on = on
      at_end InStart on = on
      at_end InIndex on = refl

      behind : (f : Frame) → gone EndsIndex label ts (f ∷ below) ≡ true → passed f ts below ≡ true
      behind Group on = absurd (false≢true on)
      behind InWidth on = absurd (false≢true on)
      behind InStart on = absurd (false≢true on)
      behind InIndex on = on
  cut_after EndsIndex label t ts (Group ∷ above) is w c s i on = absurd (false≢true on)
  cut_after EndsIndex label t ts (InWidth ∷ above) is w c s i on = absurd (false≢true on)
  cut_after EndsIndex label t ts (InStart ∷ above) is w c s i on = absurd (false≢true on)
  cut_after EndsIndex label t ts (InIndex ∷ above) is w c s i on =
      one_more t ts (λ xs. haves false xs above) (λ xs. haves label xs (InIndex ∷ above)) (λ xs r. ap (λ a. gone a label xs (InIndex ∷ above)) is ∙ r) (c above on)
  cut_after Indexes true t ts above is w c s i on =
      one_more t ts (λ xs. wants xs (InIndex ∷ above)) (λ xs. haves true xs above) (λ xs r. ap (λ a. gone a true xs above) is ∙ r) (i on)
  cut_after Indexes false t ts above is w c s i on = absurd (false≢true on)
  cut_after NoAfter label t ts above is w c s i on = absurd (false≢true on)

  cut_name : (f : Function) (o : Option Word) (a b c : Token) (ts : List Token) (above : List Frame) → argument f (a ∷ b ∷ c ∷ []) ≡ o
      → (haves false ts (above ++ frame ∷ below) ≡ true → Cut frame ts below (λ xs. haves false xs above))
      → (wants ts (InStart ∷ (above ++ frame ∷ below)) ≡ true → Cut frame ts below (λ xs. wants xs (InStart ∷ above)))
      → behind_name f o ts (above ++ frame ∷ below) ≡ true → Cut frame (a ∷ b ∷ c ∷ ts) below (λ xs. calls f xs above)
  cut_name f None a b c ts above is h w on = absurd (false≢true on)
  cut_name CountOf (Some word) a b c ts above is h w on = three_more (λ xs. haves false xs above) (λ xs r. ap (λ o. behind_name CountOf o xs above) is ∙ r) (h on)
    where
      three_more : (read : List Token → Bool) → ((xs : List Token) → read xs ≡ true → calls CountOf (a ∷ b ∷ c ∷ xs) above ≡ true) → Cut frame ts below read → Cut frame (a ∷ b ∷ c ∷ ts) below (λ xs. calls CountOf xs above)
      three_more read so cut =
          one_more a (b ∷ c ∷ ts) (λ xs. calls CountOf (a ∷ xs) above) (λ xs. calls CountOf xs above) (λ xs r. r)
          (one_more b (c ∷ ts) (λ xs. calls CountOf (a ∷ b ∷ xs) above) (λ xs. calls CountOf (a ∷ xs) above) (λ xs r. r)
          (one_more c ts read (λ xs. calls CountOf (a ∷ b ∷ xs) above) so cut))
  cut_name ArrayIndex (Some word) a b c ts above is h w on = three_more (λ xs. haves false xs above) (λ xs r. ap (λ o. behind_name ArrayIndex o xs above) is ∙ r) (h on)
    where
      three_more : (read : List Token → Bool) → ((xs : List Token) → read xs ≡ true → calls ArrayIndex (a ∷ b ∷ c ∷ xs) above ≡ true) → Cut frame ts below read → Cut frame (a ∷ b ∷ c ∷ ts) below (λ xs. calls ArrayIndex xs above)
      three_more read so cut =
          one_more a (b ∷ c ∷ ts) (λ xs. calls ArrayIndex (a ∷ xs) above) (λ xs. calls ArrayIndex xs above) (λ xs r. r)
          (one_more b (c ∷ ts) (λ xs. calls ArrayIndex (a ∷ b ∷ xs) above) (λ xs. calls ArrayIndex (a ∷ xs) above) (λ xs r. r)
          (one_more c ts read (λ xs. calls ArrayIndex (a ∷ b ∷ xs) above) so cut))
  cut_name (Data width) (Some word) a b c ts above is h w on = three_more (λ xs. haves false xs above) (λ xs r. ap (λ o. behind_name (Data width) o xs above) is ∙ r) (h on)
    where
      three_more : (read : List Token → Bool) → ((xs : List Token) → read xs ≡ true → calls (Data width) (a ∷ b ∷ c ∷ xs) above ≡ true) → Cut frame ts below read → Cut frame (a ∷ b ∷ c ∷ ts) below (λ xs. calls (Data width) xs above)
      three_more read so cut =
          one_more a (b ∷ c ∷ ts) (λ xs. calls (Data width) (a ∷ xs) above) (λ xs. calls (Data width) xs above) (λ xs r. r)
          (one_more b (c ∷ ts) (λ xs. calls (Data width) (a ∷ b ∷ xs) above) (λ xs. calls (Data width) (a ∷ xs) above) (λ xs r. r)
          (one_more c ts read (λ xs. calls (Data width) (a ∷ b ∷ xs) above) so cut))
  cut_name BitField (Some word) a b c ts above is h w on = three_more (λ xs. wants xs (InStart ∷ above)) (λ xs r. ap (λ o. behind_name BitField o xs above) is ∙ r) (w on)
    where
      three_more : (read : List Token → Bool) → ((xs : List Token) → read xs ≡ true → calls BitField (a ∷ b ∷ c ∷ xs) above ≡ true) → Cut frame ts below read → Cut frame (a ∷ b ∷ c ∷ ts) below (λ xs. calls BitField xs above)
      three_more read so cut =
          one_more a (b ∷ c ∷ ts) (λ xs. calls BitField (a ∷ xs) above) (λ xs. calls BitField xs above) (λ xs r. r)
          (one_more b (c ∷ ts) (λ xs. calls BitField (a ∷ b ∷ xs) above) (λ xs. calls BitField (a ∷ xs) above) (λ xs r. r)
          (one_more c ts read (λ xs. calls BitField (a ∷ b ∷ xs) above) so cut))

  mutual
    pub cut : (ts : List Token) (above : List Frame) → wants ts (above ++ frame ∷ below) ≡ true → Cut frame ts below (λ xs. wants xs above)
    cut [] above h = absurd (false≢true h)
    cut (t ∷ ts) above h = cut_start (start_of t.shape) t ts above refl (λ label. cut_behind label ts above) (cut ts above) (cut ts (Group ∷ above)) (λ f. cut_call f ts above) h

    cut_behind : (label : Bool) (ts : List Token) (above : List Frame) → haves label ts (above ++ frame ∷ below) ≡ true → Cut frame ts below (λ xs. haves label xs above)
    cut_behind label [] [] h = absurd (false≢true h)
    cut_behind label [] (f ∷ above) h = absurd (false≢true h)
    cut_behind label (t ∷ ts) above h =
        cut_after (after_of t.shape) label t ts above refl (cut ts above) (λ fs. cut_behind false ts fs) (λ fs. cut ts (InWidth ∷ fs)) (cut ts (InIndex ∷ above)) h

    cut_call : (f : Function) (ts : List Token) (above : List Frame) → calls f ts (above ++ frame ∷ below) ≡ true → Cut frame ts below (λ xs. calls f xs above)
    cut_call f [] above h = absurd (false≢true h)
    cut_call f (a ∷ []) above h = absurd (false≢true h)
    cut_call f (a ∷ b ∷ []) above h = absurd (false≢true h)
    cut_call f (a ∷ b ∷ c ∷ ts) above h = cut_name f (argument f (a ∷ b ∷ c ∷ [])) a b c ts above refl (cut_behind false ts above) (cut ts (InStart ∷ above)) h

  -- where no operand begins, no front completes the frame
  pub none_ends : (ts : List Token) → NoneBegins ts → (front left : List Token) → ts ≡ front ++ left → wants front (frame ∷ below) ≡ true → ⊥
  none_ends ts none front left whole h =
      let c = cut front [] h in
      none c.front ((c.end ∷ c.back) ++ left) (whole ∙ ap (λ xs. xs ++ left) c.whole ∙ append_assoc c.front (c.end ∷ c.back) left) c.complete

-- Of two fronts one goes on from the other.

abbrev pub GoesOn : List Token → List Token → List Token → List Token → Type 0
GoesOn front other rest left = (more : List Token) × (other ≡ front ++ more) × (rest ≡ more ++ left)

pub fronts : (xs ys rest left : List Token) → xs ++ rest ≡ ys ++ left → GoesOn xs ys rest left ⊎ GoesOn ys xs left rest
fronts [] ys rest left is = inl (ys, refl, is)
fronts (x ∷ xs) [] rest left is = inr (x ∷ xs, refl, sym is)
fronts (x ∷ xs) (y ∷ ys) rest left is =
    let h : x ≡ y = cc in
    elim (fronts xs ys rest left cc) [
      | inl on ↦ inl (on.0, rw (h, on.1) refl, on.2)
      | inr on ↦ inr (on.0, rw (h, on.1) refl, on.2)
    ]

at_most : (op : BinaryOp) → level_of op ≤ loosest
at_most two.Times = omega arith
at_most _ = omega arith

-- tokens after an operand that complete an expression begin with an operator, and complete one after it, or else after
-- a label with an index
operates : (a : After) (label : Bool) (t : Token) (ts : List Token) → after_of t.shape ≡ a → gone a label ts [] ≡ true
    → ((op : BinaryOp) × (after_of t.shape ≡ Operates op) × (wants ts [] ≡ true)) ⊎ ((label ≡ true) × (after_of t.shape ≡ Indexes) × (wants ts (InIndex ∷ []) ≡ true))
operates (Operates op) label t ts is h = inl (op, is, h)
operates Indexes true t ts is h = inr (refl, is, h)
operates Indexes false t ts is h = absurd (false≢true h)
operates Closes label t ts is h = absurd (false≢true h)
operates Separates label t ts is h = absurd (false≢true h)
operates EndsIndex label t ts is h = absurd (false≢true h)
operates NoAfter label t ts is h = absurd (false≢true h)

-- after an expression that stops, no longer front completes one
pub no_longer : {xs : List Token} {e : Term} (d : Derives loosest xs e) (rest : List Token) → Stops loosest (ends_labelled d) rest → (more left : List Token) → rest ≡ more ++ left
    → wants (xs ++ more) [] ≡ true → more ≡ []
no_longer d rest stops [] left is h = refl
no_longer d rest stops (t ∷ ts) left is h = elim (operates (after_of t.shape) (ends_labelled d) t ts refl (sym (flat d (t ∷ ts) []) ∙ h)) [
  | inl on ↦ absurd (stops.operator t (ts ++ left) on.0 is on.1 (at_most on.0) ts left refl on.2)
  | inr on ↦ absurd (stops.index t (ts ++ left) on.0 is on.1 ts left [] refl on.2)
]

-- a token that ends a frame is no operator, and begins no index
no_end : (frame : Frame) (op : BinaryOp) → ends frame (Operates op) ≡ true → ⊥
no_end Group op h = false≢true h
no_end InIndex op h = false≢true h
no_end InWidth op h = false≢true h
no_end InStart op h = false≢true h

no_index : (frame : Frame) → ends frame Indexes ≡ true → ⊥
no_index Group h = false≢true h
no_index InIndex h = false≢true h
no_index InWidth h = false≢true h
no_index InStart h = false≢true h

no_operator : (frame : Frame) (a : After) (ts : List Token) → ends frame a ≡ true → gone a false ts [] ≡ true → ⊥
no_operator frame (Operates op) ts at h = no_end frame op at
no_operator frame Closes ts at h = false≢true h
no_operator frame Separates ts at h = false≢true h
no_operator frame Indexes ts at h = false≢true h
no_operator frame EndsIndex ts at h = false≢true h
no_operator frame NoAfter ts at h = false≢true h

plain_end : (frame : Frame) (a : After) (ts : List Token) → ends frame a ≡ true → gone a true ts [] ≡ gone a false ts []
plain_end frame (Operates op) ts at = refl
plain_end frame Closes ts at = refl
plain_end frame Separates ts at = refl
plain_end frame Indexes ts at = absurd (no_index frame at)
plain_end frame EndsIndex ts at = refl
plain_end frame NoAfter ts at = refl

-- an end stops what goes before it
pub stops_at_end : (frame : Frame) (label : Bool) (t : Token) (ts : List Token) → ends frame (after_of t.shape) ≡ true → Stops loosest label (t ∷ ts)
stops_at_end frame label t ts at = record {
  operator = λ other rest op is operates low. absurd (no_end frame op (ends_so other rest is (Operates op) operates));
  index = λ other rest named is begins. absurd (no_index frame (ends_so other rest is Indexes begins));
}
  where
    ends_so : (other : Token) (rest : List Token) → t ∷ ts ≡ other ∷ rest → (a : After) → after_of other.shape ≡ a → ends frame a ≡ true
    ends_so other rest is a so =
        let same : t ≡ other = cc in
        ap (λ (x : After). ends frame x) (sym so ∙ ap (λ (x : Token). after_of x.shape) (sym same)) ∙ at

-- the expression before an end is the one that was read
pub one_end : {xs : List Token} {e : Term} (d : Derives loosest xs e) (rest : List Token) → Stops loosest (ends_labelled d) rest → (frame : Frame) (ys : List Token) (t : Token) (left : List Token)
    → wants ys [] ≡ true → ends frame (after_of t.shape) ≡ true → xs ++ rest ≡ ys ++ t ∷ left → (ys ≡ xs) × (rest ≡ t ∷ left)
one_end {xs} {e} d rest stops frame ys t left whole at is = elim (fronts xs ys rest (t ∷ left) is) [
  | inl on ↦ (let none = no_longer d rest stops on.0 (t ∷ left) on.2 (subst (λ zs. wants zs [] ≡ true) on.1 whole) in
      (on.1 ∙ ap (λ zs. xs ++ zs) none ∙ append-nil xs, on.2 ∙ ap (λ zs. zs ++ t ∷ left) none))
  | inr on ↦ shorter on.0 on.1 on.2
]
  where
    shorter : (more : List Token) → xs ≡ ys ++ more → t ∷ left ≡ more ++ rest → (ys ≡ xs) × (rest ≡ t ∷ left)
    shorter [] same behind = (sym (append-nil ys) ∙ sym same, sym behind)
    shorter (m ∷ more) same behind =
        let first : t ≡ m = cc in
        let here : ends frame (after_of m.shape) ≡ true = ap (λ (x : Token). ends frame (after_of x.shape)) (sym first) ∙ at in
        let h : haves false (m ∷ more) [] ≡ true = sym (accepted (m ∷ more) (plain_end frame (after_of m.shape) more here) ys [] whole) ∙ ap (λ zs. wants zs []) (sym same) ∙ complete d in
        absurd (no_operator frame (after_of m.shape) more here h)
