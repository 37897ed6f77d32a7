-- The shape that a layout stands for. Assumes nothing.
use Rattle.channel.specs.declared.layout.Layout.{Layout}
use Rattle.channel.specs.declared.layout.Layout.TheVariants.{Plain, Headed}
use Rattle.channel.specs.Layouts.{Shape, plain, headed}

abbrev pub shape : Layout → Shape
shape (Plain words p) = plain words p
shape (Headed most bytes) = headed most bytes.now
