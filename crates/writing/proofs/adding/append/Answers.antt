-- `writing::adding::append` meets its contract: the element that comes next is stored and put into the state. Assumes nothing.
use Rattle.writing.specs.Adding.{appended}
use Rattle.writing.proofs.adding.append.Goals as goal

pub returns : goal.returns
unfolding appended
returns c =
    rw (c.with_last.ensures, c.write_element.ensures, c.pointer_to-prev_phys.ensures, c.next_element-elem.ensures)
