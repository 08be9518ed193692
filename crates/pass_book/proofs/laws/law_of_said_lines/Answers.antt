use Rattle.graph_acts.specs.Plain.{sight_of}
use Rattle.pass_book.proofs.Telling.{line_says, none_unsaid}
use Rattle.pass_book.proofs.laws.law_of_said_lines.Goals as goal

pub returns-clause-says : goal.returns-clause-says
returns-clause-says g c = let see = sight_of g.C.Client g.S.Source g.K.Sink in line_says see

pub returns-clause-unsaid : goal.returns-clause-unsaid
returns-clause-unsaid g c = let see = sight_of g.C.Client g.S.Source g.K.Sink in none_unsaid see
