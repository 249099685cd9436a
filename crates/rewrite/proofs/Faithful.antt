-- Demand 3 for rolls and annotations: a query rewritten by the filter for visible is faithful, on every accepted roll. Assumes nothing.
use Rattle.reply.specs.Bytes.{Bytes}
use Rattle.roll.specs.Roll.{nodes}
use Rattle.roll.proofs.Deciding.{roll_in_order, roll_root}
use Rattle.query.specs.Syntax.{Path, Filter}
use Rattle.query.specs.Table.{entries}
use Rattle.view.specs.Annotation.{rules}
use Rattle.view.specs.Visible.{root}
use Rattle.view.specs.Promise.{Seen}
use Rattle.view.proofs.Deciding.{dec_visible}
use Rattle.theorem.proofs.Rewriting.{rewritten}
use Rattle.theorem.proofs.VisibleFilter.{visible_by}
use Rattle.theorem.proofs.VisibleExactly.{visible_right}
use Rattle.theorem.proofs.Theorem.{faithful}
use Rattle.rewrite.specs.Promise.{Faithful}

-- who is visible, as a filter made from the annotation with no roll in hand
unfoldable pub visible_on : Bytes → Bytes → Filter
visible_on annotation filters = visible_by (rules (entries filters) annotation)

pub rewritten_faithful : (annotation filters : Bytes) (q : Path) → Faithful annotation filters (rewritten (visible_on annotation filters) q) q
unfolding Faithful Seen visible_on
rewritten_faithful annotation filters q roll v r view =
    let o = roll_in_order r in
    let given = rules (entries filters) annotation in
    faithful o (dec_visible (nodes roll) given o (roll_root r)) root (visible_by given) (visible_right (nodes roll) o given) view q
