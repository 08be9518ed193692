use Rattle.play_plan_laws.specs.Assemblies.{assembly_of}
use Rattle.play_plan_laws.proofs.Lawful.{plan_lawful}
use Rattle.audit_laws.proofs.Following.{follows, unmarked_there}
use Rattle.audit_laws.proofs.Opened.{two_built}
use Rattle.audit_laws.proofs.Unmarked.{met_unmarked}
use Rattle.audit_laws.proofs.replays.law_of_replays.Goals as goal

pub returns : goal.returns
returns c = record {
  openings = λ plan files one other ready S T. two_built (assembly_of plan files) (plan_lawful plan files ready) S.0 T.0 one other S.1 T.1;
  unmarked = λ plan files handles world steps cursor middle H done meets. met_unmarked middle done (unmarked_there plan files handles world steps cursor middle H) meets;
  follows = λ plan files one other ready own S T lines entries after order N A.
      follows plan files ready own S.0 one S.1 T.0 other T.1 (two_built (assembly_of plan files) (plan_lawful plan files ready) S.0 T.0 one other S.1 T.1) lines entries after order N A;
}
