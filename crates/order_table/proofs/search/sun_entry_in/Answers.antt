use Rattle.std.proofs.Common.{◌∙◌, ℕ, ap, map}
use Rattle.cell_judge.specs.declared.sky.Sky.{Sky}
use Rattle.cell_judge.specs.Skies.{sky_content}
use Rattle.cell_split.specs.Judges.{Content}
use Rattle.method_table.specs.Row.{row_of}
use Rattle.night_portion.specs.Few.{first_problems}
use Rattle.order_table.specs.Trees.{entry_at}
use Rattle.order_table.proofs.NightLemmas.{sun_entry_is}
use Rattle.order_table.proofs.search.sun_entry_in.Goals as goal

pub returns-clause-value : goal.returns-clause-value
returns-clause-value c =
    let sky = c.args.sky.now in
    let content : Sky → Content = λ s. sky_content s.sun s.district (map row_of s.problems) s.root in
    c.entry_at.ensures.value ∙ ap (λ (n : ℕ). entry_at (first_problems n (content c.new.result.judge.now)) c.args.which) c.new.ensures.count
    ∙ ap (λ (s : Sky). entry_at (first_problems 2 (content s)) c.args.which) c.new.ensures.judge
    ∙ sun_entry_is sky.sun sky.district sky.root (map row_of c.args.night.now.problems) (map row_of sky.problems) c.args.which sky.lawful.root
    c.requires.night c.requires.which
