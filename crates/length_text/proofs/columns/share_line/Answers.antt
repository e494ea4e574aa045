-- `length_text::columns::share_line` meets its contract: percent where the numbers can be a circuit's, else `-`.
use Rattle.model.proofs.Prelude.{◌+◌, ◌*◌, ◌∙◌, sym, arith}
use Rattle.text_line.specs.Lines.{ascii}
use Rattle.text_line.proofs.LineLaws.{first_part, on_line-alone}
use Rattle.text_percent.specs.Shares.{percent_text}
use Rattle.length_text.proofs.HeldShareCases.{held-numbers, percent_fits, share_there, share_missing}
use Rattle.length_text.proofs.columns.share_line.Goals as goal

pub with_percent-requires : goal.with_percent-requires
with_percent-requires c =
    let held = held-numbers c.args.paths c.args.rising c.args.falling (sym c.are_held.ensures ∙ c.if-are_held.true) in
    (omega arith, omega arith)

pub returns-then-are_held : goal.returns-then-are_held
returns-then-are_held c =
    let yes = sym c.are_held.ensures ∙ c.if-are_held.true in
    let fits = percent_fits c.args.paths c.args.rising c.args.falling (held-numbers c.args.paths c.args.rising c.args.falling yes) in
    first_part _ _ _ c.empty_line.ensures c.with_percent.ensures
    ∙ on_line-alone (percent_text (c.args.rising + c.args.falling) (2 * c.args.paths)) (omega arith)
    ∙ share_there c.args.paths c.args.rising c.args.falling yes

pub returns : goal.returns
returns c =
    let no = sym c.are_held.ensures ∙ c.if-are_held.false in
    first_part _ _ _ c.empty_line-2.ensures c.with_text.ensures
    ∙ on_line-alone (ascii "-") (omega arith)
    ∙ share_missing c.args.paths c.args.rising c.args.falling no
