-- What a component of a play tells.
use Rattle.std.specs.Prelude.{◌≡◌, ℕ}
use Rattle.play_model.specs.Acts.{Act}
use Rattle.play_model.specs.Acts.Act.{Tell, TellEnd, TellPort, TellSettings}
use Rattle.play_model.specs.Play.{Layout, component_at}

-- its state, that its settings changed, the end of a port's disable or enable, or the end of its stream
abbrev pub IsTellingOf : Layout → ℕ → Act → Type 0
IsTellingOf w c (Tell k) = k ≡ c
IsTellingOf w c (TellSettings l) = (w.network).giver l ≡ c
IsTellingOf w c (TellPort l output) = component_at w output l ≡ c
IsTellingOf w c (TellEnd k) = k ≡ c
IsTellingOf w c _ = ⊥
