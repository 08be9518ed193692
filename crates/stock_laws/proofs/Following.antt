-- Steps follow one another.
use Rattle.il_machine.specs.World.{World}
use Rattle.il_machine.specs.Whole.{Kept, Stands}
use Rattle.stock_laws.specs.Bare.{StandsBare, StepsBare}

-- one relation after another
abbrev pub Then : (World → World → Type 0) → (World → World → Type 0) → World → World → Type 0
Then F G w v = (mid : World) × F w mid × G mid v

-- the change is seen as another, in each world that was stood for
pub as_change : (a b : Kept) (F G : World → World → Type 0) → StepsBare a b F → ((w v : World) → StandsBare a w → F w v → G w v) → StepsBare a b G
as_change a b F G f h w S =
    let x = f w S in
    (x.0, x.1, h w x.0 S x.2)

-- nothing changes
pub stay : (a : Kept) (G : World → World → Type 0) → ((w : World) → StandsBare a w → G w w) → StepsBare a a G
stay a G h w S = (w, S, h w S)

-- without the parts
pub bare : (k : Kept) (w : World) → Stands k w → StandsBare k w
bare k w S = record { looks = S.looks; loads = S.loads; noticed = S.noticed; progress = S.progress; streams = S.streams; once = S.once; given = S.given }
