-- What the steps of a history have told of a component is what its client has heard, but for errors.
use Rattle.std.specs.Prelude.{◌≡◌}
use Rattle.il_machine.specs.declared.answer.Progress.{Progress}

pub record IsAlike (heard told : Progress) : Type 0 where
  pub state : heard.state ≡ told.state
  pub eos : heard.eos ≡ told.eos
  pub settings : heard.settings ≡ told.settings
  pub port : heard.port ≡ told.port
