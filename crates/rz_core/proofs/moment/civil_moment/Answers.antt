use Rattle.std.proofs.Common.{arith, refl, ◌≡◌, FitsSigned, to_z, of_z, w8, w16, w32, w64}
use Rattle.std.specs.Prelude.{nat_abs}
use Rattle.std.proofs.lemmas.Int.{to_z-of_z}
use Rattle.jiff_core.proofs.SignedLemmas.{signed_arith}
use Rattle.jiff_core.specs.Date.{epoch_day}
use Rattle.rz_core.proofs.Civil.{whole_seconds}
use Rattle.rz_core.specs.Moment.{weekday_of}
use Rattle.rz_core.proofs.moment.civil_moment.Goals as goal

pub invariant_of-result : goal.invariant_of-result
invariant_of-result c =
    let date = c.args.civil.date in
    let time = c.args.civil.time in
    let small : FitsSigned w16 date.year = omega (arith, signed_arith, date.year_in) in
    let fits : FitsSigned w32 date.year = omega (arith, signed_arith, date.year_in) in
    let from : c.from.result ≡ date.year = simp to_z-of_z at c.from.ensures in
    let year : to_z w32 (of_z w32 c.from.result) ≡ date.year = rw from (simp to_z-of_z) in
    let seconds : to_z w64 (of_z w64 c.args.seconds) ≡ c.args.seconds = to_z-of_z w64 c.args.seconds c.ranges.seconds in
    let told = c.to_sunday_one_offset.ensures in
    let few : FitsSigned w8 c.to_sunday_one_offset.result = omega (arith, signed_arith, told.bound) in
    let number : to_z w8 (of_z w8 c.to_sunday_one_offset.result) ≡ c.to_sunday_one_offset.result = to_z-of_z w8 c.to_sunday_one_offset.result few in
    let weekday : nat_abs (to_z w8 (of_z w8 c.to_sunday_one_offset.result)) ≡ weekday_of (epoch_day date) = rw number (rw told.value (rw c.weekday.ensures refl)) in
    rw year (rw seconds (record {
      in_range = c.requires.range;
      civil = (
        (date.year_in, date.month_in, date.day_in),
        time.hour_in,
        time.minute_in,
        time.second_in,
        whole_seconds c.args.civil c.args.seconds c.requires.shown,
        weekday,
      );
    }))
