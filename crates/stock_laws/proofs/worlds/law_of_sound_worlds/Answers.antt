use Rattle.stock_laws.proofs.Following.{bare}
use Rattle.stock_laws.proofs.Views.{sound_world}
use Rattle.stock_laws.proofs.worlds.law_of_sound_worlds.Goals as goal

pub returns : goal.returns
returns c = λ k u w U S W. sound_world k u w (bare k u U) S (bare k w W)
