-- How a comparison goes on, and why it comes to its end.
use Rattle.std.proofs.Common.{◌≡◌, ℕ, ◌+◌, ◌<◌, ◌≤◌, max, min, List, [], Option, Some, None, sym, ap, subst, ◌∙◌, arith}
use Rattle.outside_io.specs.Moves.{WhereTold}
use Rattle.outside_io.specs.Stops.{GaveNothing}
use Rattle.compared_files.specs.Comparing.{ComparingValue, HasMet, IsKept}
use Rattle.compared_files.specs.Next.{IsNext}
use Rattle.compared_files.specs.declared.writing.Next.TheVariants.{Nothing, Same}

-- the file gave nothing below its size
pub short_met : (told : Option (List ℕ)) (ends more : Option ℕ) (size now from to place seen : ℕ) (piece : List ℕ) → IsNext told ends size from to piece Nothing → from ≡ place → place ≤ size
    → (place ≡ seen → ⊥) → seen ≡ size → now ≡ size → more ≡ ends → WhereTold ends (λ end. place ≤ end) → GaveNothing now more 0 place seen
short_met told ends more size now from to place seen piece next at within other seen_is now_is more_is given = record {
  whole = seen_is ∙ sym now_is;
  below = omega (arith, within, other, seen_is, now_is);
  started = omega arith;
  stopped = λ end is.
      let own : ends ≡ Some end = sym more_is ∙ is in
      let low = given end own in
      let high : from < min end size → ⊥ = next.1 end own in
      omega (arith, low, high, at, within, other, seen_is);
}

-- the file's next bytes were given
pub same_kept : {S : Type 0} (x : ComparingValue S) (src : S) (told now_told : Option (List ℕ)) (ends now_ends : Option ℕ) (size now_size from to faults count : ℕ) (piece : List ℕ)
    → IsNext told ends size from to piece (Same count) → from ≡ x.place → x.met ≡ None → x.other ≡ [] → to ≤ now_size → now_ends ≡ ends → WhereTold ends (λ end. x.place ≤ end)
    → (x.met ≡ None → x.failed ≡ 0)
    → IsKept now_told now_ends now_size to faults (record { src = src; place = x.place + count; other = x.other; met = x.met; failed = x.failed })
same_kept x src told now_told ends now_ends size now_size from to faults count piece next at none alike within ends_are given unmet =
    let on : to ≡ from + count = next.2 in
    record {
      within = omega (arith, on, at, within);
      going = λ met other. on ∙ ap (λ (n : ℕ). n + count) at;
      given = λ end is.
          let own : ends ≡ Some end = sym ends_are ∙ is in
          let low = given end own in
          let high : to ≤ max end from = next.4 end own in
          omega (arith, low, high, on, at);
      differed = λ some. absurd (some alike);
      cause = subst (HasMet faults now_size now_ends) (sym none) tt;
      unmet = unmet;
    }
