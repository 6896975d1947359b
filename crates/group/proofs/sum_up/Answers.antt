-- `group::sum_up` meets its contract: as `add_up`, laid over what stood there, as long as the longest. Assumes nothing.
use Rattle.std.proofs.Common.{◌≡◌, sym, ap, ◌∙◌, List, ◌++◌, map, ℕ, eqb, length, take, drop, eqb-true, zero-add, length-take-le, arith}
use Rattle.sequence.proofs.Lists.{and_split}
use Rattle.xor.specs.Xor.{xor_payloads}
use Rattle.parity.specs.Rows.{row_of}
use Rattle.window.specs.Group.{group, present}
use Rattle.group.proofs.Longest.{longest_is}
use Rattle.group.proofs.Rows.{rows-asked, numbers_asked, numbers_held, payloads-front, group-below}
use Rattle.group.proofs.sum_up.Goals as goal

pub measure-r-requires : goal.measure-r-requires
measure-r-requires c =
    let a = c.args in
    let m = c.members_held-m in
    numbers_asked (group a.w a.stream a.snbase) a.marks.now a.w.n m.result.rows m.result.n m.ensures a.lengths.now c.requires.5

pub slice_bounds-lay_rows-end : goal.slice_bounds-lay_rows-end
slice_bounds-lay_rows-end c =
    let a = c.args in
    let m = c.members_held-m in
    let fits = longest_is a.w.n a.w.p a.lengths.now a.marks.now (group a.w a.stream a.snbase) m.result.rows m.result.n c.measure-r.result.most c.wide-size.result m.ensures (group-below a.w (omega (arith, c.well_formed)) c.requires.0 a.stream a.snbase c.requires.1) c.requires.7 c.wide-size.ensures.0 c.measure-r.ensures.1 in
    omega (arith, fits.1, c.requires.2)

pub slice_bounds-lay_rows-end-2 : goal.slice_bounds-lay_rows-end-2
slice_bounds-lay_rows-end-2 c =
    let a = c.args in
    let m = c.members_held-m in
    let fits = longest_is a.w.n a.w.p a.lengths.now a.marks.now (group a.w a.stream a.snbase) m.result.rows m.result.n c.measure-r.result.most c.wide-size.result m.ensures (group-below a.w (omega (arith, c.well_formed)) c.requires.0 a.stream a.snbase c.requires.1) c.requires.7 c.wide-size.ensures.0 c.measure-r.ensures.1 in
    sym (length-take-le c.wide-size.result a.sum.now (omega (arith, fits.1, c.requires.2)))

pub lay_rows-requires : goal.lay_rows-requires
lay_rows-requires c =
    let a = c.args in
    let m = c.members_held-m in
    let k = c.wide-size.result in
    let these = group a.w a.stream a.snbase in
    let fits = longest_is a.w.n a.w.p a.lengths.now a.marks.now these m.result.rows m.result.n c.measure-r.result.most k m.ensures (group-below a.w (omega (arith, c.well_formed)) c.requires.0 a.stream a.snbase c.requires.1) c.requires.7 c.wide-size.ensures.0 c.measure-r.ensures.1 in
    let size : length (take k a.sum.now) ≡ k = length-take-le k a.sum.now (omega (arith, fits.1, c.requires.2)) in (
      rw size fits.1,
      rows-asked these a.marks.now a.w.n m.result.rows m.result.n m.ensures a.w.p a.media.now c.requires.3,
      numbers_asked these a.marks.now a.w.n m.result.rows m.result.n m.ensures a.lengths.now c.requires.5,
      λ e. let both = and_split c.measure-r.result.full (eqb k a.w.p) e in (size ∙ eqb-true k a.w.p both.1, c.measure-r.ensures.2 both.0),
    )

pub xor_timestamps-requires : goal.xor_timestamps-requires
xor_timestamps-requires c =
    let a = c.args in
    let m = c.members_held-m in
    numbers_asked (group a.w a.stream a.snbase) a.marks.now a.w.n m.result.rows m.result.n m.ensures a.timestamps.now c.requires.4

pub returns : goal.returns
returns c =
    let a = c.args in
    let m = c.members_held-m in
    let k = c.wide-size.result in
    let these = group a.w a.stream a.snbase in
    let fits = longest_is a.w.n a.w.p a.lengths.now a.marks.now these m.result.rows m.result.n c.measure-r.result.most k m.ensures (group-below a.w (omega (arith, c.well_formed)) c.requires.0 a.stream a.snbase c.requires.1) c.requires.7 c.wide-size.ensures.0 c.measure-r.ensures.1 in
    let size : length (take k a.sum.now) ≡ k = length-take-le k a.sum.now (omega (arith, fits.1, c.requires.2)) in
    let all : List ℕ = xor_payloads a.w.p (map (row_of a.w.p a.w.p a.media.now a.lengths.now) (present a.marks.now these)) in (
      c.xor_timestamps.ensures ∙ numbers_held these a.marks.now a.w.n m.result.rows m.result.n m.ensures a.timestamps.now 0,
      c.measure-r.ensures.0 ∙ numbers_held these a.marks.now a.w.n m.result.rows m.result.n m.ensures a.lengths.now 0,
      fits.0,
      fits.1,
      ap (λ (l : List ℕ). l ++ drop k a.sum.now)
          (c.lay_rows.ensures
          ∙ ap (λ (j : ℕ). xor_payloads j (map (row_of a.w.p j a.media.now a.lengths.now) (take m.result.n m.result.rows))) size
          ∙ payloads-front these a.marks.now a.w.n m.result.rows m.result.n m.ensures a.w.p k a.media.now a.lengths.now fits.1)
          ∙ ap (λ (j : ℕ). take k all ++ drop j a.sum.now) (sym (zero-add k)),
    )
