-- The faults of templates have the numbers 451 to 456.
use Rattle.std.proofs.Common.{◌≡◌, ℕ, Bool, true, false, List, [], ◌∷◌, length, take, drop, Option, Some, None, Err, refl, sym, ap, ◌∙◌}
use Rattle.std.specs.Prelude.{◌+◌, nat_lt, if◌then◌else◌}
use Rattle.rz_core.specs.Message.{is_between}
use Rattle.rz_tmpl.specs.Cut.{broken, code_fault, end_fault, entry_fault, next_fault, standing_at, IsCut, Standing}
use Rattle.rz_tmpl.specs.Entry.{entry_of}
use Rattle.rz_tmpl.specs.Faults.{IsSayable}
use Rattle.rz_tmpl.specs.declared.entry.Entry.{Entry}
use Rattle.rz_tmpl.specs.declared.entry.Entry.TheVariants.{Count, End, One, Start}
use Rattle.rz_tmpl.specs.declared.entry.ListForm.TheVariants.{Counted, Uncounted}
use Rattle.rz_tmpl.specs.declared.fault.TmplFault.{TmplFault}
use Rattle.rz_tmpl.proofs.Faults.{four}

abbrev between : Option ℕ → Bool
between None = true
between (Some number) = is_between 451 456 number

of_entry : (full outermost waiting valued : Bool) (entry : Entry) → between (entry_fault (four full outermost waiting valued) entry) ≡ true
of_entry full outermost waiting valued (One plain) = refl
of_entry full outermost true valued (Count less) = refl
of_entry full outermost false valued (Count less) = refl
of_entry true outermost true valued (Start Counted) = refl
of_entry false outermost true valued (Start Counted) = refl
of_entry full outermost false valued (Start Counted) = refl
of_entry true outermost waiting valued (Start Uncounted) = refl
of_entry false outermost waiting valued (Start Uncounted) = refl
of_entry full true waiting valued End = refl
of_entry full false true valued End = refl
of_entry full false false true End = refl
of_entry full false false false End = refl

at_end : (full outermost waiting valued : Bool) → between (end_fault (four full outermost waiting valued)) ≡ true
at_end full true true valued = refl
at_end full true false valued = refl
at_end full false waiting valued = refl

of_code : (s : Standing) (entry : Option Entry) → between (code_fault s entry) ≡ true
of_code s None = refl
of_code s (Some entry) = of_entry s.full s.outermost s.waiting s.valued entry

either : (torn : Bool) (fault : Option ℕ) → between fault ≡ true → between (if torn then Some 451 else fault) ≡ true
either true fault is = refl
either false fault is = is

of_next : (s : Standing) (bytes : List ℕ) → between (next_fault s bytes) ≡ true
of_next s [] = at_end s.full s.outermost s.waiting s.valued
of_next s (label ∷ bytes) = either (nat_lt (length bytes) (label + 4)) _ (of_code s (entry_of (take 4 (drop label bytes))))

pub numbered : (bytes : List ℕ) (fault : TmplFault) → IsCut bytes (Err fault) → IsSayable fault
numbered bytes fault (broken place rest number stands is) =
    ap between (sym is) ∙ of_next (standing_at place) rest
