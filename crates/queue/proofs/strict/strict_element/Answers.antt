-- `queue::strict::strict_element` meets its contract: header, sequence, backlink and footer are asked for in the definition's order, and
-- a header that is in sequence fits the ring, so that its footer can be read. Assumes nothing.
use Rattle.std.proofs.lemmas.Result.{err_from_is_err_and}
use mathlib.Core.Path.{◌≡◌, sym, ◌∙◌}
use borrow.Author.Tests.{eq-eqb, ne_eqb}
use Rattle.refusal.specs.Demand.{demand}
use Rattle.refusal.specs.Answer.{on_verdict}
use Rattle.queue.specs.Strict.{strict_element}
use Rattle.queue.proofs.Headers.{sequence_fits}
use Rattle.queue.proofs.strict.strict_element.Goals as goal
use Rattle.queue.proofs.strict.strict_element.Goals.{After-validate_footer}
use Rattle.std.specs.Prelude.{Ok, Err}

-- past the backlink the footer decides
footer_decides : (c : After-validate_footer) →
    let a = c.args in
    on_verdict Err c.validate_footer.result (Ok c.in_ok-header.header)
    ≡ strict_element a.image.now a.file_len a.pos a.seq a.link
unfolding strict_element demand
footer_decides c =
    rw (
      sym c.header_in_sequence.ensures ∙ c.in_ok-header.was,
      eq-eqb _ _ c.if-header-link.false,
      sym c.here.ensures,
      sym c.validate_footer.ensures,
    )

pub returns-in_err-header : goal.returns-in_err-header
unfolding strict_element
returns-in_err-header c =
    let p = err_from_is_err_and c.from_residual.result c.from_residual.ensures.1 in
    rw (p.1, p.2, sym c.header_in_sequence.ensures ∙ c.in_err-header.was)

pub returns-then-header-link : goal.returns-then-header-link
unfolding strict_element demand
returns-then-header-link c =
    rw (sym c.header_in_sequence.ensures ∙ c.in_ok-header.was, ne_eqb _ _ c.if-header-link.true)

pub validate_footer-requires : goal.validate_footer-requires
validate_footer-requires c =
    let f = sequence_fits _ _ _ _ _ (sym c.header_in_sequence.ensures ∙ c.in_ok-header.was) in
    rw c.here.ensures (record { some = c.requires.0; inside = c.requires.1; small = c.requires.2; place = c.requires.3; span = f })

pub returns-in_err-validate_footer : goal.returns-in_err-validate_footer
returns-in_err-validate_footer c =
    let p = err_from_is_err_and c.from_residual-in_err-validate_footer.result c.from_residual-in_err-validate_footer.ensures.1 in
    rw (p.1, p.2, sym (footer_decides (goal.at.returns-in_err-validate_footer c).After-validate_footer), c.in_err-validate_footer.was)

pub returns : goal.returns
returns c = rw (sym (footer_decides (goal.at.returns c).After-validate_footer), c.in_ok-validate_footer.was)
