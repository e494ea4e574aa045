-- `length_chart::put_chart` meets its contract: the frame, then the bars of each length; nothing where the buffer is too short.
use mathlib.Core.Path.{ap}
use Rattle.text_buffer.proofs.WrittenLaws.{then-written, written_as, no_room, room-there, first-bytes, counts-bytes}
use Rattle.length_chart.specs.Chart.{head_lines, chart_text, chart_bytes}
use Rattle.length_chart.proofs.put_chart.Goals as goal

pub returns-then-out-lt-CHART_BYTES : goal.returns-then-out-lt-CHART_BYTES
returns-then-out-lt-CHART_BYTES c =
    let text = chart_text c.args.paths.now c.args.rising.now c.args.falling.now in
    let none = no_room chart_bytes c.args.out.now text c.if-out-lt-CHART_BYTES.true in
    record { written = none; out_after = first-bytes none; prefix_len = counts-bytes none }

pub returns : goal.returns
unfolding chart_text
returns c =
    let text = chart_text c.args.paths.now c.args.rising.now c.args.falling.now in
    let head = written_as (ap head_lines c.width_of.ensures) c.put_head-legend.ensures.0 in
    let frame = then-written (then-written head c.put_legend-scale.ensures.0) c.put_scale-first.ensures.0 in
    let all = then-written (then-written frame c.put_lengths-end.ensures.0) c.put_plain.ensures.0 in
    let whole = room-there chart_bytes c.args.out.now text c.if-out-lt-CHART_BYTES.false all in
    record { written = whole; out_after = first-bytes whole; prefix_len = counts-bytes whole }
