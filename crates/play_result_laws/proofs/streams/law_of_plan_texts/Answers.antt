use Rattle.std.proofs.Common.{false}
use Rattle.play_result_laws.proofs.Ends.{text_long}
use Rattle.play_result_laws.proofs.Texts.{texts_failed, texts_failed_new, texts_fronts, texts_new, texts_whole}
use Rattle.play_result_laws.proofs.streams.law_of_plan_texts.Goals as goal

pub returns : goal.returns
returns c = record {
  whole = λ plan files samples recent p w place name R F W H I late. texts_whole plan files samples R F recent p w W H late place name I;
  fronts = λ plan files samples recent p w place name R F W H I. texts_fronts plan files samples R F recent p w W H place name I;
  new = λ plan files samples recent p w place name R F W H I. texts_new plan files samples R F recent p w W H place name I;
  failed = λ plan files samples recent p w v done place name R F W G E I. texts_failed plan files samples R F recent p w v done W G E place name I;
  failed_new = λ plan files samples recent p w v done place name R F W G E I. texts_failed_new plan files samples R F recent p w v done W G E place name I;
  sizes = λ plan files samples place name R F I. text_long plan files samples R F (λ l. false) place I.0 name I.1 I.2;
}
