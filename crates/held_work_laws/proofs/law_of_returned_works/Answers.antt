use Rattle.held_work_laws.proofs.Returned.{brought_back, comes, handed_back, its_own}
use Rattle.held_work_laws.proofs.Taken.{work_taken}
use Rattle.held_work_laws.proofs.law_of_returned_works.Goals as goal

pub returns : goal.returns
returns g c = record {
  taken = λ graph handle terms held after S is set_so gone own unfailed lent. work_taken graph handle terms held after S is set_so gone own unfailed lent;
  comes = λ held done terms failed part graph R U. comes held done terms failed part R graph U;
  its = λ held done terms failed part graph R U. its_own held done terms failed part R graph U;
  handed = λ held done terms failed part graph R U. handed_back held done terms failed part R graph U;
  back = λ held done terms failed part old new R steps. brought_back held done terms failed part R old new steps;
}
