-- Nothing is under way at the start, and every step keeps the order.
use Rattle.line_array.specs.ArrayConfig.{array_start}
use Rattle.line_array.proofs.InOrder.{steps-in_order}
use Rattle.line_array.proofs.Sharing.{IsSharing-start, start-under_way}
use Rattle.line_array.proofs.laws.deliveries_keep_the_order_of_puts.Goals as goal

pub returns : goal.returns
returns c setting n lines proper some few two most steps link =
    steps-in_order setting proper link (array_start setting.protocol n lines) steps
    (IsSharing-start setting n lines proper some few two most)
    (start-under_way setting n lines link)
