-- The close-out, one happening after another, in each world.
use Rattle.std.proofs.Common.{◌≡◌, ℕ, suc, None, refl, ◌∙◌, ap}
use Rattle.il_machine.specs.World.{World}
use Rattle.il_machine.specs.Due.{first_due, Happens, HappenTimes, ClosesTo}
use Rattle.il_machine.specs.Whole.{Kept}
use Rattle.stock_laws.specs.Bare.{StepsBare}

-- some things happened, each the first due one
abbrev pub Happening : World → World → Type 0
Happening w v = (n : ℕ) × HappenTimes n w v

pub none_yet : (a : Kept) → StepsBare a a Happening
none_yet a = λ w S. (w, S, (0, refl))

pub one_more : (a b c : Kept) → StepsBare a b Happening → StepsBare b c Happens → StepsBare a c Happening
one_more a b c f g = λ w S.
    let x = f w S in
    let y = g x.0 x.1 in
    (y.0, y.1, (suc x.2.0, (x.0, x.2.1, y.2)))

pub all_closed : (a b : Kept) → StepsBare a b Happening → first_due b.looks ≡ None → StepsBare a b ClosesTo
all_closed a b f e = λ w S.
    let x = f w S in
    (x.0, x.1, record { steps = x.2.0; by_steps = x.2.1; closed = ap first_due x.1.looks ∙ e })

-- a closed world stays
pub closed_stays : (a : Kept) → first_due a.looks ≡ None → StepsBare a a ClosesTo
closed_stays a e = all_closed a a (none_yet a) e
