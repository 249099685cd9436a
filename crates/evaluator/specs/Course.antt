-- The courses on which a path is walked, each as a path that is walked forwards.
use Rattle.std.specs.Prelude.{ℕ}
use Rattle.query.specs.Syntax as syntax
use Rattle.query.specs.Syntax.{Path}
use Rattle.query.specs.Turn.{turn, free}
use Rattle.query.specs.Table.{Entries, path_at}
use Rattle.steps.specs.declared.axis.Axis.{Axis}
use Rattle.steps.specs.declared.axis.Axis.TheVariants.{Child, Parent, Next, Previous}
use Rattle.evaluator.specs.declared.course.Course.{Course}
use Rattle.evaluator.specs.declared.course.Walk.{Walk}
use Rattle.evaluator.specs.declared.course.Course.TheVariants.{Forwards, Backwards, Freely}

-- the path as it is, turned round, or with every filter taken to hold
abbrev pub facing : Course → Path → Path
facing Forwards p = p
facing Backwards p = turn p
facing Freely p = free p

-- the path of an entry, as it is walked
abbrev pub walked : Entries → Walk → Path
walked es walk = facing walk.course (path_at es walk.entry)

-- the one of two that comes first
abbrev pub first_of : Course → ℕ → ℕ → ℕ
first_of Forwards left right = left
first_of Backwards left right = right
first_of Freely left right = left

-- the path that is one step along an axis
abbrev pub path_of : Axis → Path
path_of Child = syntax.child
path_of Parent = syntax.parent
path_of Next = syntax.next
path_of Previous = syntax.previous
