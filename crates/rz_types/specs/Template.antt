-- Templates as contracts see them: the plain fields of their bodies.
use Rattle.rz_types_fields.specs.Field.{plain_body, PlainBody}
use Rattle.rz_types.specs.declared.template.Template.{Template}

abbrev pub template_of : Template → PlainBody
template_of template = plain_body template.body.value
