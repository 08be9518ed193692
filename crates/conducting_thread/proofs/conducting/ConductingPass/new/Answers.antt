use Rattle.std.proofs.Common.{refl}
use Rattle.graph_acts.specs.Plain.{sight_of}
use Rattle.conducting_thread.proofs.Passing.{first_pass}
use Rattle.conducting_thread.proofs.conducting.ConductingPass.new.Goals as goal

pub returns-clause-pass : goal.returns-clause-pass
returns-clause-pass g c = λ b plan seats is number none at. first_pass (sight_of g.C.Client g.S.Source g.K.Sink) b plan seats _ is number none at refl refl
