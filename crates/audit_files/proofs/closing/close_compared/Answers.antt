use Rattle.std.proofs.Common.{◌≡◌, ℕ, ◌-◌, [], ◌∷◌, ◌++◌, take, List, Ok, Option, append_assoc, sym, ◌∙◌, ap, subst}
use Rattle.std.proofs.lemmas.List.{append-nil}
use Rattle.std.specs.Vec.{vec_len}
use Rattle.play_files.specs.Closing.{AreClosed}
use Rattle.play_files.specs.Seen.{files_seen}
use Rattle.std.specs.Option.{option_to_list}
use Rattle.audio_parts.specs.declared.part_file.PartFile.{PartFile}
use Rattle.play_files.proofs.Closings.{closed_more, nothing_closed}
use Rattle.audit_files.specs.Compared.{read_seen}
use Rattle.audit_files.proofs.closing.close_compared.Goals as goal

pub loop-file-init : goal.loop-file-init
loop-file-init g c = ([], sym (append-nil c.args.files.items), nothing_closed (g.M.Media.outside c.args.media.now))

pub loop-file-preserved : goal.loop-file-preserved
loop-file-preserved g c =
    let i = c.loop-file.invariant in
    let popped : c.loop-file.files.items ≡ c.pop.new.self.items ++ c.in-Some.file ∷ [] =
    c.pop.ensures.items ∙ ap (λ (o : Option (Option (PartFile _ _))). c.pop.new.self.items ++ option_to_list o) c.in-Some.is in (
      c.in-Some.file ∷ i.0,
      i.1 ∙ (ap (λ (fs : List (Option (PartFile _ _))). fs ++ i.0) popped ∙ append_assoc c.pop.new.self.items (c.in-Some.file ∷ []) i.0),
      closed_more _ _ (g.M.Media.outside c.args.media.now) (g.M.Media.outside c.loop-file.media) (g.M.Media.outside c.close_file.new.media) (Ok tt) (Ok tt) i.2 c.close_file.ensures,
    )

pub returns : goal.returns
returns g c =
    let i = c.loop-file.invariant in
    let empty : vec_len c.loop-file.files ≡ 0 = (rw c.in_default.is at c.pop.ensures.cases).0 in
    let rest : c.pop.new.self.items ≡ [] = c.pop.ensures.rest ∙ ap (λ (n : ℕ). take (n - 1) c.loop-file.files.items) empty in
    let items : c.loop-file.files.items ≡ [] =
    c.pop.ensures.items ∙ (ap (λ (o : Option (Option (PartFile _ _))). c.pop.new.self.items ++ option_to_list o) c.in_default.is ∙ ap (λ (fs : List (Option (PartFile _ _))). fs ++ []) rest) in
    let all : c.args.files.items ≡ i.0 = i.1 ∙ ap (λ (fs : List (Option (PartFile _ _))). fs ++ i.0) items in
    subst (λ (fs : List (Option (PartFile _ _))). AreClosed (files_seen (read_seen g.M.Src.Source) fs)
    (g.M.Media.outside c.args.media.now) (g.M.Media.outside c.loop-file.media) (Ok tt)) (sym all) i.2
