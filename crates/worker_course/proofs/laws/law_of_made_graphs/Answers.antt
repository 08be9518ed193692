use Rattle.std.proofs.Common.{sym, ◌∙◌, option_map}
use Rattle.std.proofs.lemmas.List.{length-map}
use Rattle.play_files.specs.Seen.{file_seen}
use Rattle.play_run.proofs.ThreadFiles.{are_offered}
use Rattle.worker_course.proofs.Opened.{all_back, can_stop, does_fit, files_back, same_untouched}
use Rattle.worker_course.proofs.Placed.{seats_for}
use Rattle.worker_course.proofs.laws.law_of_made_graphs.Goals as goal

pub returns-clause-back : goal.returns-clause-back
returns-clause-back g c = λ plan before graph M.
    let given = M.can.files in
    all_back plan given graph (M.made given M.can.ready (are_offered g.S.Source g.K.Sink plan given before M.can.are))

pub returns-clause-seated : goal.returns-clause-seated
returns-clause-seated g c = λ plan before graph M seats Z.
    let given = M.can.files in
    seats_for plan given graph (M.made given M.can.ready (are_offered g.S.Source g.K.Sink plan given before M.can.are)) seats Z

pub returns-clause-fits : goal.returns-clause-fits
returns-clause-fits g c = λ plan before graph M.
    let given = M.can.files in
    does_fit plan given graph (M.made given M.can.ready (are_offered g.S.Source g.K.Sink plan given before M.can.are))
    (record { fronts = c.law_of_left_plays.ensures.fronts; stands = c.law_of_left_plays.ensures.stands; few = c.law_of_stops.ensures.few; links = c.law_of_stops.ensures.links; stops = c.law_of_stops.ensures.stops })

pub returns-clause-stops : goal.returns-clause-stops
returns-clause-stops g c = λ plan before graph M.
    let given = M.can.files in
    can_stop plan given graph (M.made given M.can.ready (are_offered g.S.Source g.K.Sink plan given before M.can.are))
    (record { fronts = c.law_of_left_plays.ensures.fronts; stands = c.law_of_left_plays.ensures.stands; few = c.law_of_stops.ensures.few; links = c.law_of_stops.ensures.links; stops = c.law_of_stops.ensures.stops })

pub returns-clause-untouched : goal.returns-clause-untouched
returns-clause-untouched g c = λ plan before after graph M many are.
    same_untouched g.S.Source g.K.Sink plan before after
    (files_back g.S.Source g.K.Sink plan before after graph (sym (length-map before (option_map (file_seen g.S.Source g.K.Sink))) ∙ M.can.many) many M.were are) M.can
